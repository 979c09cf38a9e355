-- Laws of parts put into a row of children.
use mathlib.Core.Path.{◌≡◌, refl, ap, sym}
use mathlib.Core.List.{List, [], ◌∷◌, ◌++◌, append_assoc, append-nil}
use mathlib.Core.Bool.{true, false}
use Prim.Native.Nat.{ℕ, zero, suc, ◌+◌, ◌≤◌, ◌<◌}
use native.Mathlib.Omega.{arith}
use lib.ListN.{length}
use Rattle.laws.specs.Totals.{total}
use Rattle.laws.proofs.Totals.{total_append}
use Rattle.theory_tree.specs.Pairs.{pairs, forest_pairs}
use Rattle.theory_tree.proofs.Pairs.{InRange, AllInRange}
use Rattle.theory_tree.specs.Represent.{RepresentsAll}
use Rattle.theory_tree.proofs.Represent.{roots_left, roots_right, routing_left, routing_right}
use Rattle.theory_tree.specs.Tree.{Tree, Forest, root, roots, routing, node_totals, node, one, more}
use Rattle.theory_tree.proofs.Tree.{Left, Right, join, splice, fill, Context, plug, left_total, right_total, rightmost, followed, top, down}
use Rattle.theory_tree.specs.Height.{Height, AllHeight}

pub roots_join : (f : Forest) (k : ℕ) (g : Forest) → roots (join f k g) ≡ roots f ++ roots g
roots_join (one t) k g = refl
roots_join (more t x f) k g = rw (roots_join f k g)

pub routing_join : (f : Forest) (k : ℕ) (g : Forest) → routing (join f k g) ≡ routing f ++ k ∷ routing g
routing_join (one t) k g = refl
routing_join (more t x f) k g = rw (routing_join f k g)

pub pairs_join : (f : Forest) (k : ℕ) (g : Forest) → forest_pairs (join f k g) ≡ forest_pairs f ++ forest_pairs g
pairs_join (one t) k g = refl
pairs_join (more t x f) k g = rw (pairs_join f k g, append_assoc)

pub totals_join : (w : ℕ → ℕ) (f : Forest) (k : ℕ) (g : Forest) → node_totals w (join f k g) ≡ node_totals w f + node_totals w g
totals_join w (one t) k g = refl
totals_join w (more t x f) k g = omega (arith, totals_join w f k g)

pub range_join : (lo hi : ℕ) (f : Forest) (k : ℕ) (g : Forest) → AllInRange lo k f → lo < k → k < hi → AllInRange k hi g → AllInRange lo hi (join f k g)
range_join lo hi (one t) k g i l h j = (i, l, h, j)
range_join lo hi (more t x f) k g i l h j = (i.0, i.1, omega (arith, i.2), range_join x hi f k g i.3 i.2 h j)

pub range_unjoin : (lo hi : ℕ) (f : Forest) (k : ℕ) (g : Forest) → AllInRange lo hi (join f k g) → AllInRange lo k f × (lo < k) × (k < hi) × AllInRange k hi g
range_unjoin lo hi (one t) k g i = i
range_unjoin lo hi (more t x f) k g i = let r = range_unjoin x hi f k g i.3 in ((i.0, i.1, r.1, r.0), omega (arith, i.1, r.1), r.2, r.3)

pub represents_join : (c : List ℕ) (f : Forest) (k : ℕ) (g : Forest) → RepresentsAll c f → RepresentsAll c g → RepresentsAll c (join f k g)
represents_join c (one t) k g p q = (p, q)
represents_join c (more t x f) k g p q = (p.0, represents_join c f k g p.1 q)

-- splices: the part in the middle may be replaced by one of the same range, pairs and height
pub range_splice : (lo hi : ℕ) (l : Left) (f : Forest) (r : Right) → AllInRange lo hi (splice l f r)
    → (a : ℕ) × (b : ℕ) × AllInRange a b f × ((g : Forest) → AllInRange a b g → AllInRange lo hi (splice l g r))
range_splice lo hi [] f rightmost i = (lo, hi, i, λ g j. j)
range_splice lo hi [] f (followed k e) i = let u = range_unjoin lo hi f k e i in (lo, k, u.0, λ g j. range_join lo hi g k e j u.1 u.2 u.3)
range_splice lo hi (x ∷ l) f r i = let u = range_splice x.1 hi l f r i.3 in (u.0, u.1, u.2, λ g j. (i.0, i.1, i.2, u.3 g j))

pub pairs_splice : (w : ℕ × ℕ → ℕ) (l : Left) (f g : Forest) (r : Right)
    → total w (forest_pairs (splice l g r)) + total w (forest_pairs f) ≡ total w (forest_pairs (splice l f r)) + total w (forest_pairs g)
pairs_splice w [] f g rightmost = omega arith
pairs_splice w [] f g (followed k e) = simp (pairs_join, total_append) (omega arith)
pairs_splice w (x ∷ l) f g r = simp total_append (omega (arith, pairs_splice w l f g r))

pub totals_splice : (w : ℕ → ℕ) (l : Left) (f : Forest) (r : Right) → node_totals w (splice l f r) ≡ left_total w l + node_totals w f + right_total w r
totals_splice w [] f rightmost = omega arith
totals_splice w [] f (followed k e) = simp totals_join (omega arith)
totals_splice w (x ∷ l) f r = omega (arith, totals_splice w l f r)

pub height_splice : (h : ℕ) (l : Left) (f : Forest) (r : Right) → AllHeight h (splice l f r) → AllHeight h f × ((g : Forest) → AllHeight h g → AllHeight h (splice l g r))
height_splice h [] f rightmost i = (i, λ g j. j)
height_splice h [] f (followed k e) i = let u = unjoin f i in (u.0, λ g j. rejoin g j u.1)
  where
    unjoin : (f : Forest) → AllHeight h (join f k e) → AllHeight h f × AllHeight h e
    unjoin (one t) i = i
    unjoin (more t x f) i = let u = unjoin f i.1 in ((i.0, u.0), u.1)

    rejoin : (f : Forest) → AllHeight h f → AllHeight h e → AllHeight h (join f k e)
    rejoin (one t) i j = (i, j)
    rejoin (more t x f) i j = (i.0, rejoin f i.1 j)
height_splice h (x ∷ l) f r i = let u = height_splice h l f r i.1 in (u.0, λ g j. (i.0, u.1 g j))

-- the same through a context
pub range_plug : (lo hi : ℕ) (C : Context) (s : Tree) → InRange lo hi (plug C s) → (a : ℕ) × (b : ℕ) × InRange a b s × ((s' : Tree) → InRange a b s' → InRange lo hi (plug C s'))
range_plug lo hi top s i = (lo, hi, i, λ s' j. j)
range_plug lo hi (down C m g l r) s i =
    let u = range_plug lo hi C (node m g (fill l s r)) i in
    let v = range_splice u.0 u.1 l (one s) r u.2 in
    (v.0, v.1, v.2, λ s' j. u.3 _ (v.3 (one s') j))

-- the low end of a part's range is at least that of the whole
splice_low : (lo hi : ℕ) (l : Left) (f : Forest) (r : Right) (i : AllInRange lo hi (splice l f r)) → lo ≤ (range_splice lo hi l f r i).0
unfolding range_splice
splice_low lo hi [] f rightmost i = omega arith
splice_low lo hi [] f (followed k e) i = omega arith
splice_low lo hi (x ∷ l) f r i = omega (arith, i.1, splice_low x.1 hi l f r i.3)

pub plug_low : (lo hi : ℕ) (C : Context) (s : Tree) (i : InRange lo hi (plug C s)) → lo ≤ (range_plug lo hi C s i).0
unfolding range_plug
plug_low lo hi top s i = omega arith
plug_low lo hi (down C m g l r) s i =
    let u = range_plug lo hi C (node m g (fill l s r)) i in
    omega (arith, plug_low lo hi C (node m g (fill l s r)) i, splice_low u.0 u.1 l (one s) r u.2)

pub height_plug : (h : ℕ) (C : Context) (s : Tree) → Height h (plug C s) → (k : ℕ) × Height k s × ((s' : Tree) → Height k s' → Height h (plug C s'))
height_plug h top s i = (h, i, λ s' j. j)
height_plug h (down C m true l r) s i =
    let u = height_plug h C (node m true (fill l s r)) i in
    let v = height_splice u.0 l (one s) r u.1 in
    (u.0, v.0, λ s' j. u.2 _ (v.1 (one s') j))
height_plug h (down C m false l r) s i = step (height_plug h C (node m false (fill l s r)) i)
  where
    step : ((k : ℕ) × Height k (node m false (fill l s r)) × ((s' : Tree) → Height k s' → Height h (plug C s')))
        → (k : ℕ) × Height k s × ((s' : Tree) → Height k s' → Height h (plug C (node m false (fill l s' r))))
    step u = place u.0 u.1 u.2
      where
        place : (k : ℕ) → Height k (node m false (fill l s r)) → ((s' : Tree) → Height k s' → Height h (plug C s'))
            → (k : ℕ) × Height k s × ((s' : Tree) → Height k s' → Height h (plug C (node m false (fill l s' r))))
        place zero p q = absurd p
        place (suc k) p q = let v = height_splice k l (one s) r p in (k, v.0, λ s' j. q _ (v.1 (one s') j))

pub pairs_plug : (w : ℕ × ℕ → ℕ) (C : Context) (s s' : Tree) → total w (pairs (plug C s')) + total w (pairs s) ≡ total w (pairs (plug C s)) + total w (pairs s')
pairs_plug w top s s' = omega arith
pairs_plug w (down C m g l r) s s' =
    let p = pairs_plug w C (node m g (fill l s r)) (node m g (fill l s' r)) in
    let q = pairs_splice w l (one s) (one s') r in
    omega arith

-- heights of a join
pub height_join : (h : ℕ) (f : Forest) (k : ℕ) (g : Forest) → AllHeight h f → AllHeight h g → AllHeight h (join f k g)
height_join h (one t) k g p q = (p, q)
height_join h (more t x f) k g p q = (p.0, height_join h f k g p.1 q)

pub height_unjoin : (h : ℕ) (f : Forest) (k : ℕ) (g : Forest) → AllHeight h (join f k g) → AllHeight h f × AllHeight h g
height_unjoin h (one t) k g p = p
height_unjoin h (more t x f) k g p = let u = height_unjoin h f k g p.1 in ((p.0, u.0), u.1)

pub represents_unjoin : (c : List ℕ) (f : Forest) (k : ℕ) (g : Forest) → RepresentsAll c (join f k g) → RepresentsAll c f × RepresentsAll c g
represents_unjoin c (one t) k g p = p
represents_unjoin c (more t x f) k g p = let u = represents_unjoin c f k g p.1 in ((p.0, u.0), u.1)

-- children of a spliced forest, on the card
pub represents_splice : (c : List ℕ) (l : Left) (f : Forest) (r : Right) → RepresentsAll c (splice l f r) → RepresentsAll c f × ((g : Forest) → RepresentsAll c g → RepresentsAll c (splice l g r))
represents_splice c [] f rightmost i = (i, λ g j. j)
represents_splice c [] f (followed k e) i = let u = unjoin f i in (u.0, λ g j. represents_join c g k e j u.1)
  where
    unjoin : (f : Forest) → RepresentsAll c (join f k e) → RepresentsAll c f × RepresentsAll c e
    unjoin (one t) i = i
    unjoin (more t x f) i = let u = unjoin f i.1 in ((i.0, u.0), u.1)
represents_splice c (x ∷ l) f r i = let u = represents_splice c l f r i.1 in (u.0, λ g j. (i.0, u.1 g j))

-- splices, in lists
pub roots_splice : (l : Left) (f : Forest) (r : Right) → roots (splice l f r) ≡ roots_left l ++ (roots f ++ roots_right r)
roots_splice [] f rightmost = sym (append-nil (roots f))
roots_splice [] f (followed k g) = roots_join f k g
roots_splice (a ∷ l) f r = ap (λ (x : List ℕ). root a.0 ∷ x) (roots_splice l f r)

pub routing_splice : (l : Left) (f : Forest) (r : Right) → routing (splice l f r) ≡ routing_left l ++ (routing f ++ routing_right r)
routing_splice [] f rightmost = sym (append-nil (routing f))
routing_splice [] f (followed k g) = routing_join f k g
routing_splice (a ∷ l) f r = ap (λ (x : List ℕ). a.1 ∷ x) (routing_splice l f r)

pub length_roots_left : (l : Left) → length (roots_left l) ≡ length l
length_roots_left [] = refl
length_roots_left (a ∷ l) = ap suc (length_roots_left l)

pub length_routing_left : (l : Left) → length (routing_left l) ≡ length l
length_routing_left [] = refl
length_routing_left (a ∷ l) = ap suc (length_routing_left l)
