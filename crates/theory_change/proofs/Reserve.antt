-- Laws of the nodes that are kept for splits above a tagged node.
use mathlib.Core.Path.{◌≡◌, refl, ap, sym, ◌∙◌}
use mathlib.Core.List.{[], ◌∷◌}
use mathlib.Core.Bool.{true, false}
use Prim.Native.Nat.{ℕ, ◌+◌}
use native.Mathlib.Omega.{arith}
use lib.ListN.{length}
use Rattle.theory_walk.proofs.Routing.{Untagged}
use Rattle.theory_walk.proofs.Seek.{violations_part, sound_above}
use Rattle.theory_tree.proofs.Path.{width_of, full_run, own_violation, reserve, Violation, width_fill, own_violation_le}
use Rattle.theory_tree.specs.Tree.{Tree, Forest, roots, leaf, node, one, more}
use Rattle.theory_tree.proofs.Tree.{Left, Right, fill, Context, plug, rightmost, followed, top, down}
use Rattle.theory_tree.proofs.Violations.{below, violations_inside}
use Rattle.theory_tree.specs.Violations.{violations, forest_violations, RootOk, table_violations}
use Rattle.theory_tree.specs.Reserve.{reserves, all_reserves}
use Rattle.laws.proofs.Cases.{impossible}
use Rattle.card.specs.Layout.{run_below}

-- without a violation there is no tagged node
mutual
  pub reserves_none : (run : ℕ) (t : Tree) → violations t ≡ 0 → reserves run t ≡ 0
  reserves_none run (leaf m ks vs) z = refl
  reserves_none run (node m true f) z = absurd (omega arith)
  reserves_none run (node m false f) z = omega (arith, all_reserves_none (run_below (length (roots f)) run) f (omega arith))

  pub all_reserves_none : (run : ℕ) (f : Forest) → forest_violations f ≡ 0 → all_reserves run f ≡ 0
  all_reserves_none run (one t) z = reserves_none run t z
  all_reserves_none run (more t k f) z = omega (arith, reserves_none run t (omega arith), all_reserves_none run f (omega arith))

-- only the child in the hole has violations
reserves_fill : (run : ℕ) (l : Left) (s : Tree) (r : Right) → forest_violations (fill l s r) ≡ violations s → all_reserves run (fill l s r) ≡ reserves run s
reserves_fill run [] s rightmost e = refl
reserves_fill run [] s (followed k f) e = omega (arith, all_reserves_none run f (omega arith))
reserves_fill run (a ∷ l) s r e =
    let q = violations_inside l (one s) r in
    omega (arith, reserves_none run a.0 (omega arith), reserves_fill run l s r (omega arith))

-- the total, seen at the violation
pub reserves_plug : (C : Context) (s : Tree) → Untagged C → table_violations (plug C s) ≡ 1 → below C → violations s ≡ 1 → reserves 0 (plug C s) ≡ reserves (full_run C) s
unfolding full_run
reserves_plug top s u v b o = absurd b
reserves_plug (down top m true l r) s u v b o = let e = u.0 in impossible (cc)
reserves_plug (down top m false l r) s u v b o =
    let e = reserves_fill (run_below (width_of l r) 0) l s r (omega arith) in
    ap (λ (x : ℕ). 0 + all_reserves (run_below x 0) (fill l s r)) (width_fill l s r) ∙ omega arith
reserves_plug (down (down C m' g' l' r') m true l r) s u v b o = let e = u.0 in impossible (cc)
reserves_plug (down (down C m' g' l' r') m false l r) s u v b o =
    let le = violations_part (down C m' g' l' r') (node m false (fill l s r)) tt in
    let ge = violations_inside l (one s) r in
    let one_here : violations (node m false (fill l s r)) ≡ 1 = omega (arith, v) in
    reserves_plug (down C m' g' l' r') (node m false (fill l s r)) u.1 v tt one_here
    ∙ ap (λ (x : ℕ). 0 + all_reserves (run_below x (full_run (down C m' g' l' r'))) (fill l s r)) (width_fill l s r)
    ∙ omega (arith, reserves_fill (run_below (width_of l r) (full_run (down C m' g' l' r'))) l s r (omega (arith, one_here)))

-- at the violation itself it is what document 01 asks for
reserves_own : (C : Context) (s : Tree) → violations s ≡ 1 → own_violation s ≡ 1 → reserves (full_run C) s ≡ reserve C s
reserves_own C (leaf m ks vs) v o = refl
reserves_own C (node m true f) v o = omega (arith, all_reserves_none (run_below (length (roots f)) (full_run C)) f (omega arith))
reserves_own C (node m false f) v o = omega (arith, all_reserves_none (run_below (length (roots f)) (full_run C)) f (omega arith))

-- so the reserve of a table's violation is the same for every key that leads to it
pub reserve_total : (t : Tree) (key : ℕ) → RootOk t → table_violations t ≡ 1 → (v : Violation t key) → reserve v.context v.part ≡ reserves 0 t
reserve_total t key w single v = sym (rw v.is_tree (go v.context v.part v.inside v.own (rw v.is_tree at w) (rw v.is_tree at single)))
  where
    go : (C : Context) (s : Tree) → below C → own_violation s ≡ 1 → RootOk (plug C s) → table_violations (plug C s) ≡ 1 → reserves 0 (plug C s) ≡ reserve C s
    go C s b o w single =
        let le = violations_part C s b in
        let here : violations s ≡ 1 = omega (arith, own_violation_le s) in
        let u = sound_above C s w (omega arith) (omega arith) in
        reserves_plug C s u.0 single b here ∙ reserves_own C s here o
