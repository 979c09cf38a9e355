-- Where the violation is that the findings note. A part is reached through a context; every key of the part's range leads to it,
-- so the low end of the range, which is noted, leads to the violation, past nodes that are not tagged: a tagged node above it
-- would be a second violation.
use mathlib.Core.Path.{◌≡◌, refl, ap, ap₂, sym, ◌∙◌}
use mathlib.Core.List.{[], ◌∷◌, ◌++◌}
use mathlib.Core.Bool.{Bool, true, false, ◌||◌}
use Prim.Native.Nat.{ℕ, suc, ◌+◌, ◌≤◌, ◌<◌}
use native.Mathlib.Omega.{arith}
use lib.ListN.{length, length-append}
use lib.Dec.{ltb}
use Rattle.laws.specs.Bits.{bit}
use Rattle.laws.proofs.Cases.{order}
use Rattle.laws.specs.Cases.{pick}
use Rattle.card_check.specs.Check.{Findings}
use Rattle.theory_check.proofs.Found.{taken, note, violates, at_root, found, found_below, Same, own_at, own_one, found_below_same}
use Rattle.theory_tree.proofs.Pairs.{InRange, AllInRange}
use Rattle.theory_tree.proofs.Path.{Past, OnPath, width_of, full_run, own_violation, reserve, Violation}
use Rattle.theory_tree.specs.Tree.{Tree, Forest, roots, leaf, node, one, more}
use Rattle.theory_tree.proofs.Tree.{Left, Right, splice, fill, Context, plug, rightmost, followed, top, down}
use Rattle.theory_tree.specs.Violations.{violations, forest_violations, Widths, AllWidths, RootOk, table_violations}
use Rattle.theory_tree.proofs.Violations.{below}
use Rattle.card.specs.Layout.{run_below}

-- the findings name a violation of the tree by a key of the range
pub record Told (low high : ℕ) (t : Tree) (f : Findings) : Type 0 where
  pub violation : Violation t f.key
  pub run : f.run ≡ reserve violation.context violation.part
  pub above : low ≤ f.key
  pub under : f.key < high

told_same : (low high : ℕ) (t : Tree) (f g : Findings) → Same g f → Told low high t f → Told low high t g
told_same low high t f g s p =
    record {
      violation =
          record {
            context = p.violation.context;
            part = p.violation.part;
            is_tree = p.violation.is_tree;
            inside = p.violation.inside;
            own = p.violation.own;
            on_path = rw s.key p.violation.on_path;
          };
      run = s.run ∙ p.run;
      above = omega (arith, p.above, s.key);
      under = omega (arith, p.under, s.key);
    }

told_widen : (low high a b : ℕ) (t : Tree) (f : Findings) → a ≤ low → high ≤ b → Told low high t f → Told a b t f
told_widen low high a b t f h g p = record { violation = p.violation; run = p.run; above = omega (arith, p.above); under = omega (arith, p.under) }

told_here : (low high : ℕ) (whole : Tree) (C : Context) (s : Tree) (f : Findings) → whole ≡ plug C s → below C
    → own_violation s ≡ 1 → OnPath low C → f.key ≡ low → f.run ≡ reserve C s → low < high → Told low high whole f
told_here low high whole C s f e b o p k r h =
    record { violation = record { context = C; part = s; is_tree = e; inside = b; own = o; on_path = rw k p }; run = r; above = omega arith; under = omega arith }

note_some : (b : Bool) (key run : ℕ) (f : Findings) → bit b ≡ 1 → ((note b key run f).key ≡ key) × ((note b key run f).run ≡ run)
note_some true key run f e = (refl, refl)
note_some false key run f e = absurd (omega arith)

untagged : (g b : Bool) → bit (g || b) ≡ 0 → g ≡ false
untagged true b e = absurd (omega arith)
untagged false b e = refl

reserve_node : (C : Context) (run m : ℕ) (g : Bool) (k : Forest) → full_run C ≡ run → pick g run 0 ≡ reserve C (node m g k)
reserve_node C run m true k e = sym e
reserve_node C run m false k e = refl

-- the children of a node, walked from left to right: a child passed, and the child at hand
splice_first : (l : Left) (t : Tree) (x : ℕ) (k : Forest) → splice l (more t x k) rightmost ≡ fill l t (followed x k)
splice_first [] t x k = refl
splice_first (a ∷ l) t x k = ap (λ (r : Forest). more a.0 a.1 r) (splice_first l t x k)

splice_next : (l : Left) (t : Tree) (x : ℕ) (k : Forest) → splice l (more t x k) rightmost ≡ splice (l ++ (t, x) ∷ []) k rightmost
splice_next [] t x k = refl
splice_next (a ∷ l) t x k = ap (λ (r : Forest). more a.0 a.1 r) (splice_next l t x k)

past_more : (low x : ℕ) (l : Left) → low ≤ x → Past low l → Past x l
past_more low x [] h p = tt
past_more low x (a ∷ l) h p = (omega (arith, p.0), past_more low x l h p.1)

past_next : (low x : ℕ) (l : Left) (t : Tree) → low ≤ x → Past low l → Past x (l ++ (t, x) ∷ [])
past_next low x [] t h p = (omega arith, tt)
past_next low x (a ∷ l) t h p = (omega (arith, p.0), past_next low x l t h p.1)

run_of : (C : Context) (m : ℕ) (l : Left) (r : Right) (n run : ℕ) → n ≡ width_of l r → run_below n (full_run C) ≡ run → full_run (down C m false l r) ≡ run
unfolding full_run
run_of C m l r n run e h = rw (← e) h

mutual
  pub found_told : (run low high : ℕ) (t : Tree) (f : Findings) (whole : Tree) (C : Context) → whole ≡ plug C t → below C → Widths t → InRange low high t → low < high → violations t ≡ 1
      → full_run C ≡ run → ((x : ℕ) → low ≤ x → x < high → OnPath x C) → Told low high whole (found false run low t f)
  found_told run low high (leaf m ks vs) f whole C e b w i h v r p =
      let o = own_at false (leaf m ks vs) w in
      let s = note_some (violates false (leaf m ks vs)) low 0 (taken m f) (omega arith) in
      told_here low high whole C (leaf m ks vs) (found false run low (leaf m ks vs) f) e b v (p low (omega arith) h) s.0 s.1 h
  found_told run low high (node m g k) f whole C e b w i h v r p =
      let o = own_at false (node m g k) w in
      let here : Findings = at_root false run low (node m g k) f in
      order 0 (bit (violates false (node m g k)))
      (λ u. let s = note_some (violates false (node m g k)) low (pick g run 0) (taken m f) (omega arith) in
      told_same low high whole here (found false run low (node m g k) f) (found_below_same (run_below (length (roots k)) run) low k here w.1 (omega arith))
      (told_here low high whole C (node m g k) here e b (omega (arith, own_one (node m g k) w)) (p low (omega arith) h) s.0 (s.1 ∙ reserve_node C run m g k r) h))
      (λ u. let z : g ≡ false = untagged g (ltb (length (roots k)) 2) (omega arith) in
      found_below_told (run_below (length (roots k)) run) low high k here whole C m [] (e ∙ ap (λ (b : Bool). plug C (node m b k)) z) w.1 i h (omega arith) (ap₂ run_below (omega arith) r) tt p)

  pub found_below_told : (run low high : ℕ) (k : Forest) (f : Findings) (whole : Tree) (C : Context) (m : ℕ) (l : Left)
      → whole ≡ plug C (node m false (splice l k rightmost)) → AllWidths k → AllInRange low high k → low < high → forest_violations k ≡ 1
      → run_below (length l + length (roots k)) (full_run C) ≡ run → Past low l → ((x : ℕ) → low ≤ x → x < high → OnPath x C) → Told low high whole (found_below run low k f)
  found_below_told run low high (one t) f whole C m l e w i h v r q p =
      found_told run low high t f whole (down C m false l rightmost) e tt w i h v (run_of C m l rightmost (length l + 1) run refl r)
      (λ x a b. (refl, past_more low x l a q, tt, p x a b))
  found_below_told run low high (more t x k) f whole C m l e w i h v r q p =
      order 0 (violations t)
      (λ u. told_widen low x low high whole (found_below run x k (found false run low t f)) (omega arith) (omega (arith, i.2))
      (told_same low x whole (found false run low t f) (found_below run x k (found false run low t f)) (found_below_same run x k (found false run low t f) w.1 (omega arith))
      (found_told run low x t f whole (down C m false l (followed x k)) (e ∙ ap (λ (b : Forest). plug C (node m false b)) (splice_first l t x k)) tt w.0 i.0 i.1 (omega arith)
      (run_of C m l (followed x k) (length l + suc (length (roots k))) run refl r)
      (λ y a b. (refl, past_more low y l a q, b, p y a (omega (arith, i.2)))))))
      (λ u. told_widen x high low high whole (found_below run x k (found false run low t f)) (omega (arith, i.1)) (omega arith)
      (found_below_told run x high k (found false run low t f) whole C m (l ++ (t, x) ∷ []) (e ∙ ap (λ (b : Forest). plug C (node m false b)) (splice_next l t x k)) w.1 i.3 i.2 (omega arith)
      (ap (λ (n : ℕ). run_below n (full_run C)) (omega (arith, length-append l ((t, x) ∷ []))) ∙ r)
      (past_next low x l t (omega (arith, i.1)) q)
      (λ y a b. p y (omega (arith, i.1)) b)))

-- the whole table
pub table_told : (low high : ℕ) (t : Tree) (f : Findings) → RootOk t → InRange low high t → low < high → table_violations t ≡ 1 → Told low high t (found true 0 low t f)
unfolding full_run
table_told low high (leaf m ks vs) f w i h v = absurd (omega arith)
table_told low high (node m true k) f w i h v = absurd w
table_told low high (node m false k) f w i h v =
    found_below_told (run_below (length (roots k)) 0) low high k (at_root true 0 low (node m false k) f) (node m false k) top m [] refl w.2 i h v
    (ap (λ (n : ℕ). run_below n 0) (omega arith)) tt (λ x a b. tt)
