-- What the check of a tree finds, as a function of the tree: `found` takes the tree's numbers out of the free nodes and notes the
-- violations on the way, as the check does that reads the card. All that is later said of the findings is proved of `found`, once
-- for both directions: which nodes stay free, and where the violation is that was noted.
use mathlib.Core.Path.{◌≡◌, refl, ap, sym, ◌∙◌}
use mathlib.Core.List.{List, [], ◌∷◌}
use mathlib.Core.Bool.{Bool, true, false, ◌||◌}
use mathlib.Core.Logic.{by_cases}
use Prim.Native.Nat.{ℕ, zero, suc, ◌+◌, ◌≤◌}
use native.Mathlib.Omega.{arith}
use native.Mathlib.Decide.{ℕ_discrete}
use lib.ListN.{length, set, get_or, length-set}
use lib.Seq.{get_or-set_other}
use lib.Dec.{ltb}
use borrow.Author.Tests.{lt-ltb, le-ltb}
use Rattle.card.specs.Layout.{slot_pairs, run_below}
use Rattle.laws.specs.Bits.{bit}
use Rattle.laws.proofs.Bits.{bit_le}
use Rattle.laws.proofs.Cases.{order, impossible}
use Rattle.laws.specs.Cases.{pick}
use Rattle.laws.specs.Totals.{indicator}
use Rattle.laws.proofs.Totals.{indicator_same, indicator_other}
use Rattle.card_check.specs.Check.{Findings}
use Rattle.theory_tree.proofs.Path.{own_violation}
use Rattle.theory_tree.specs.Tree.{Tree, Forest, root, roots, node_total, node_totals, leaf, node, one, more}
use Rattle.theory_tree.specs.Violations.{few, violations, forest_violations, Width, Widths, AllWidths, RootOk, table_violations}
use Rattle.theory_tree.proofs.Violations.{few_none, few_one}

-- at most one of two: where the second holds the first does not
pub one_of : (a b : Bool) → (b ≡ true → a ≡ false) → bit a + bit b ≤ 1
one_of true true h = impossible (cc (h refl))
one_of true false h = omega arith
one_of false true h = omega arith
one_of false false h = omega arith

pub one_of_not : (a b : Bool) → bit a + bit b ≤ 1 → b ≡ true → a ≡ false
one_of_not true true h e = absurd (omega arith)
one_of_not true false h e = sym e
one_of_not false b h e = refl

-- node m is no longer free
abbrev pub taken : ℕ → Findings → Findings
taken m f = record { free = set f.free m false; violated = f.violated; key = f.key; run = f.run }

-- the findings with a violation noted where there is one
abbrev pub note : Bool → ℕ → ℕ → Findings → Findings
note violates key run f = pick violates (record { free = f.free; violated = true; key = key; run = run }) f

-- whether a tree's root node violates, as the root of the table or elsewhere
abbrev pub violates : Bool → Tree → Bool
violates is_root (leaf m ks vs) = pick is_root false (ltb (length (slot_pairs ks vs)) 2)
violates is_root (node m g f) = g || ltb (length (roots f)) 2

-- the run to note for a violation: only tagged nodes are split upwards
abbrev pub noted_run : ℕ → Tree → ℕ
noted_run run (leaf m ks vs) = 0
noted_run run (node m g f) = pick g run 0

-- what is found at a tree's root node, and then in the whole tree
abbrev pub at_root : Bool → ℕ → ℕ → Tree → Findings → Findings
at_root is_root run low t f = note (violates is_root t) low (noted_run run t) (taken (root t) f)

abbrev mutual
  pub found : Bool → ℕ → ℕ → Tree → Findings → Findings
  found is_root run low (leaf m ks vs) f = at_root is_root run low (leaf m ks vs) f
  found is_root run low (node m g k) f = found_below (run_below (length (roots k)) run) low k (at_root is_root run low (node m g k) f)

  pub found_below : ℕ → ℕ → Forest → Findings → Findings
  found_below run low (one t) f = found false run low t f
  found_below run low (more t k r) f = found_below run k r (found false run low t f)

-- ---- the free nodes

pub note_free : (b : Bool) (key run : ℕ) (f : Findings) → (note b key run f).free ≡ f.free
note_free true key run f = refl
note_free false key run f = refl

-- 1 for a free node, else 0
abbrev pub is_free : Findings → ℕ → ℕ
is_free f i = bit (get_or f.free i false)

-- each number of a tree is free, once
abbrev pub AllFree : Findings → Tree → Type 0
AllFree f t = (i : ℕ) → node_total (indicator i) t ≤ is_free f i

get_cleared : (l : List Bool) (m : ℕ) → get_or (set l m false) m false ≡ false
get_cleared [] m = refl
get_cleared (x ∷ l) zero = refl
get_cleared (x ∷ l) (suc m) = get_cleared l m

pub root_free : (b : Bool) (key run m : ℕ) (f : Findings) (i : ℕ) → indicator i m ≤ is_free f i → is_free (note b key run (taken m f)) i + indicator i m ≡ is_free f i
root_free b key run m f i h =
    rw (note_free b key run (taken m f))
    (by_cases (ℕ_discrete i m)
    (λ e. let u : indicator i m ≡ 1 = rw e (indicator_same m) in let z : get_or (set f.free m false) i false ≡ false =
    rw e (get_cleared f.free m) in omega (arith, ap bit z, bit_le (get_or f.free i false)))
    (λ d. omega (arith, indicator_other i m d, ap bit (get_or-set_other f.free m i false false d))))

mutual
  pub found_free : (is_root : Bool) (run low : ℕ) (t : Tree) (f : Findings) → AllFree f t → (i : ℕ) → is_free (found is_root run low t f) i + node_total (indicator i) t ≡ is_free f i
  found_free is_root run low (leaf m ks vs) f h i = root_free (violates is_root (leaf m ks vs)) low 0 m f i (h i)
  found_free is_root run low (node m g k) f h i =
      let p : (i : ℕ) → is_free (at_root is_root run low (node m g k) f) i + indicator i m ≡ is_free f i =
      λ i. root_free (violates is_root (node m g k)) low (pick g run 0) m f i (omega (arith, h i)) in
      let q = found_below_free (run_below (length (roots k)) run) low k (at_root is_root run low (node m g k) f) (λ i. omega (arith, p i, h i)) i in
      omega (arith, p i)

  pub found_below_free : (run low : ℕ) (k : Forest) (f : Findings) → ((i : ℕ) → node_totals (indicator i) k ≤ is_free f i) → (i : ℕ)
      → is_free (found_below run low k f) i + node_totals (indicator i) k ≡ is_free f i
  found_below_free run low (one t) f h i = found_free false run low t f h i
  found_below_free run low (more t x k) f h i =
      let p : (i : ℕ) → is_free (found false run low t f) i + node_total (indicator i) t ≡ is_free f i = λ j. found_free false run low t f (λ i. omega (arith, h i)) j in
      let q = found_below_free run x k (found false run low t f) (λ i. omega (arith, p i, h i)) i in
      omega (arith, p i)

mutual
  pub found_length : (is_root : Bool) (run low : ℕ) (t : Tree) (f : Findings) → length (found is_root run low t f).free ≡ length f.free
  found_length is_root run low (leaf m ks vs) f = ap length (note_free (violates is_root (leaf m ks vs)) low 0 (taken m f)) ∙ length-set f.free m false
  found_length is_root run low (node m g k) f =
      found_below_length (run_below (length (roots k)) run) low k (at_root is_root run low (node m g k) f)
      ∙ ap length (note_free (violates is_root (node m g k)) low (pick g run 0) (taken m f)) ∙ length-set f.free m false

  pub found_below_length : (run low : ℕ) (k : Forest) (f : Findings) → length (found_below run low k f).free ≡ length f.free
  found_below_length run low (one t) f = found_length false run low t f
  found_below_length run low (more t x k) f = found_below_length run x k (found false run low t f) ∙ found_length false run low t f

-- ---- the violation

-- what a part must be by its widths, and its violations: as the root of the table or elsewhere
abbrev pub WidthsAt : Bool → Tree → Type 0
WidthsAt true t = RootOk t
WidthsAt false t = Widths t

abbrev pub violations_at : Bool → Tree → ℕ
violations_at true t = table_violations t
violations_at false t = violations t

pub widths_below : (is_root : Bool) (m : ℕ) (g : Bool) (f : Forest) → WidthsAt is_root (node m g f) → AllWidths f
widths_below true m true f w = absurd w
widths_below true m false f w = w.2
widths_below false m g f w = w.1

pub note_one : (b : Bool) (key run : ℕ) (f : Findings) → bit f.violated + bit b ≤ 1 → bit (note b key run f).violated ≡ bit f.violated + bit b
note_one true key run f h = omega arith
note_one false key run f h = omega arith

-- nothing noted: the findings about a violation are the same
pub record Same (f g : Findings) : Type 0 where
  pub violated : f.violated ≡ g.violated
  pub key : f.key ≡ g.key
  pub run : f.run ≡ g.run

same_over : (f g h : Findings) → Same f g → Same g h → Same f h
same_over f g h p q = record { violated = p.violated ∙ q.violated; key = p.key ∙ q.key; run = p.run ∙ q.run }

note_none : (b : Bool) (key run m : ℕ) (f : Findings) → bit b ≡ 0 → Same (note b key run (taken m f)) f
note_none true key run m f e = absurd (omega arith)
note_none false key run m f e = record { violated = refl; key = refl; run = refl }

pub few_bit : (n : ℕ) → few n ≡ bit (ltb n 2)
few_bit n = order n 2 (λ o. rw (lt-ltb n 2 o) (few_one n o)) (λ o. rw (le-ltb n 2 o) (few_none n o))

inner_own : (g : Bool) (n : ℕ) → Width g n → bit g + few n ≡ bit (g || ltb n 2)
inner_own true n w = omega (arith, few_none n (omega arith))
inner_own false n w = omega (arith, few_bit n)

-- a tree's root node adds one violation where it violates, and none else
pub own_at : (is_root : Bool) (t : Tree) → WidthsAt is_root t → violations_at is_root t ≡ bit (violates is_root t) + table_violations t
own_at true (leaf m ks vs) w = refl
own_at false (leaf m ks vs) w = omega (arith, few_bit (length (slot_pairs ks vs)))
own_at true (node m true f) w = absurd w
own_at true (node m false f) w = rw (le-ltb (length (roots f)) 2 w.0) (omega arith)
own_at false (node m g f) w = omega (arith, inner_own g (length (roots f)) w.0)

pub own_one : (t : Tree) → Widths t → own_violation t ≡ bit (violates false t)
own_one (leaf m ks vs) w = few_bit (length (slot_pairs ks vs))
own_one (node m g f) w = inner_own g (length (roots f)) w.0

mutual
  pub found_violated : (is_root : Bool) (run low : ℕ) (t : Tree) (f : Findings) → WidthsAt is_root t → bit f.violated + violations_at is_root t ≤ 1
      → bit (found is_root run low t f).violated ≡ bit f.violated + violations_at is_root t
  found_violated is_root run low (leaf m ks vs) f w h =
      let o = own_at is_root (leaf m ks vs) w in
      omega (arith, note_one (violates is_root (leaf m ks vs)) low 0 (taken m f) (omega arith))
  found_violated is_root run low (node m g k) f w h =
      let o = own_at is_root (node m g k) w in
      let p = note_one (violates is_root (node m g k)) low (pick g run 0) (taken m f) (omega arith) in
      omega (arith, found_below_violated (run_below (length (roots k)) run) low k (at_root is_root run low (node m g k) f) (widths_below is_root m g k w) (omega arith))

  pub found_below_violated : (run low : ℕ) (k : Forest) (f : Findings) → AllWidths k → bit f.violated + forest_violations k ≤ 1
      → bit (found_below run low k f).violated ≡ bit f.violated + forest_violations k
  found_below_violated run low (one t) f w h = found_violated false run low t f w h
  found_below_violated run low (more t x k) f w h =
      let p = found_violated false run low t f w.0 (omega arith) in
      omega (arith, found_below_violated run x k (found false run low t f) w.1 (omega arith))

mutual
  pub found_same : (is_root : Bool) (run low : ℕ) (t : Tree) (f : Findings) → WidthsAt is_root t → violations_at is_root t ≡ 0 → Same (found is_root run low t f) f
  found_same is_root run low (leaf m ks vs) f w h = note_none (violates is_root (leaf m ks vs)) low 0 m f (omega (arith, own_at is_root (leaf m ks vs) w))
  found_same is_root run low (node m g k) f w h =
      let o = own_at is_root (node m g k) w in
      same_over (found is_root run low (node m g k) f) (at_root is_root run low (node m g k) f) f
      (found_below_same (run_below (length (roots k)) run) low k (at_root is_root run low (node m g k) f) (widths_below is_root m g k w) (omega arith))
      (note_none (violates is_root (node m g k)) low (pick g run 0) m f (omega arith))

  pub found_below_same : (run low : ℕ) (k : Forest) (f : Findings) → AllWidths k → forest_violations k ≡ 0 → Same (found_below run low k f) f
  found_below_same run low (one t) f w h = found_same false run low t f w h
  found_below_same run low (more t x k) f w h =
      same_over (found_below run x k (found false run low t f)) (found false run low t f) f
      (found_below_same run x k (found false run low t f) w.1 (omega arith))
      (found_same false run low t f w.0 (omega arith))
