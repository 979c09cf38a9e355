-- Children that give way to others under one parent. Document 01, "The changes": nearly every change writes some nodes below
-- the parent and "a new copy of the parent"; what is shown of the children is carried here to the rewrite of the parent.
use mathlib.Core.Path.{◌≡◌, refl, ap, sym, ◌∙◌}
use mathlib.Core.List.{List, [], ◌∷◌, ◌++◌}
use mathlib.Core.Bool.{true, false}
use Prim.Native.Nat.{ℕ, zero, suc, ◌+◌, ◌-◌, ◌≤◌, ◌<◌}
use native.Mathlib.Omega.{arith}
use lib.ListN.{length, get_or, take, drop, length-append}
use lib.Seq.{take_at, drop_at, get_or_at}
use Rattle.card.specs.Stores.{NewNode, new_node}
use Rattle.card.proofs.Stores.{HasWords, AllHaveWords}
use Rattle.change_plan.specs.Change.{half}
use Rattle.theory_change.proofs.Rewrite.{Shape, violations_in, own_in, SameHeight, AllFew, numbers, Rewrite}
use Rattle.laws.proofs.Cases.{order}
use Rattle.laws.proofs.Lists.{drop_past}
use Rattle.laws.specs.Totals.{total}
use Rattle.theory_shapes.proofs.Bare.{bare_left, bare_right}
use Rattle.theory_shapes.proofs.Next.{root_of_two, tagged_in}
use Rattle.theory_tree.proofs.Cut.{cut, cut_join}
use Rattle.theory_tree.specs.Pairs.{forest_pairs}
use Rattle.theory_tree.proofs.Pairs.{AllInRange, routing_roots}
use Rattle.theory_tree.specs.Represent.{RepresentsAll}
use Rattle.theory_tree.proofs.Splice.{roots_splice, roots_join, routing_join, range_join, range_unjoin, pairs_splice, totals_splice, height_splice, represents_splice}
use Rattle.theory_tree.specs.Height.{Height, AllHeight}
use Rattle.theory_tree.specs.Tree.{Forest, roots, routing, node_totals, node, one, more}
use Rattle.theory_tree.proofs.Tree.{Left, Right, join, splice, Context, rightmost, followed, top, down}
use Rattle.theory_tree.specs.Violations.{few, forest_violations, AllWidths}
use Rattle.theory_tree.proofs.Violations.{few_none, widths_splice}

-- The children F give way to G: the nodes new are written for them, the nodes out are no longer there.
pub record Exchange (F G : Forest) (new : List NewNode) (out : List ℕ) : Type 0 where
  pub range : (lo hi : ℕ) → 0 < lo → AllInRange lo hi F → AllInRange lo hi G
  pub same_pairs : (w : ℕ × ℕ → ℕ) → total w (forest_pairs G) ≡ total w (forest_pairs F)
  pub height : (h : ℕ) → AllHeight h F → AllHeight h G
  pub widths : AllWidths F → AllWidths G
  pub same_numbers : (w : ℕ → ℕ) → node_totals w G + total w out ≡ node_totals w F + total w (numbers new)
  pub few : AllFew new
  pub represented : (c : List ℕ) → RepresentsAll c F → AllHaveWords c new → RepresentsAll c G

-- a range starts above 0 wherever the whole range does, so the exchange may ask for that
range_exchange : (lo hi : ℕ) (l : Left) (F G : Forest) (r : Right)
    → ((a b : ℕ) → 0 < a → AllInRange a b F → AllInRange a b G) → 0 < lo → AllInRange lo hi (splice l F r) → AllInRange lo hi (splice l G r)
range_exchange lo hi [] F G rightmost e z i = e lo hi z i
range_exchange lo hi [] F G (followed k f) e z i = let u = range_unjoin lo hi F k f i in range_join lo hi G k f (e lo k z u.0) u.1 u.2 u.3
range_exchange lo hi (x ∷ l) F G r e z i = (i.0, i.1, i.2, range_exchange x.1 hi l F G r e (omega (arith, i.1)) i.3)

-- the same among all the children of the parent
pub exchange_splice : (l : Left) (F G : Forest) (r : Right) (new : List NewNode) (out : List ℕ) → Exchange F G new out → Exchange (splice l F r) (splice l G r) new out
exchange_splice l F G r new out x =
    record {
      range = λ lo hi z i. range_exchange lo hi l F G r x.range z i;
      same_pairs = λ w. omega (arith, pairs_splice w l F G r, x.same_pairs w);
      height = λ h i. let u = height_splice h l F r i in u.1 G (x.height h u.0);
      widths = λ i. let u = widths_splice l F r i in u.1 G (x.widths u.0);
      same_numbers = λ w. omega (arith, totals_splice w l F r, totals_splice w l G r, x.same_numbers w);
      few = x.few;
      represented = λ c i h. let u = represents_splice c l F r i in u.1 G (x.represented c u.0 h);
    }

-- new nodes, and one above them
numbers_append : (w : ℕ → ℕ) (Xs : List NewNode) (X : NewNode) → total w (numbers (Xs ++ X ∷ [])) ≡ total w (numbers Xs) + w X.number
numbers_append w [] X = omega arith
numbers_append w (Y ∷ Xs) X = omega (arith, numbers_append w Xs X)

few_append : (Xs : List NewNode) (X : NewNode) → AllFew Xs → length X.keys ≤ 11 → length X.values ≤ 11 → AllFew (Xs ++ X ∷ [])
few_append [] X h a b = ((a, b), tt)
few_append (Y ∷ Xs) X h a b = (h.0, few_append Xs X h.1 a b)

words_append : (c : List ℕ) (Xs : List NewNode) (X : NewNode) → AllHaveWords c (Xs ++ X ∷ []) → AllHaveWords c Xs × HasWords c X
words_append c [] X h = (tt, h.0)
words_append c (Y ∷ Xs) X h = let u = words_append c Xs X h.1 in ((h.0, u.0), u.1)

-- "The root .. if internal it has 2 to 11 children .. other internal nodes 1 to 11 children"
abbrev pub Enough : Context → ℕ → Type 0
Enough top n = 2 ≤ n
Enough (down C m g l r) n = 1 ≤ n

pub enough : (C : Context) (n : ℕ) → 2 ≤ n → Enough C n
enough top n h = h
enough (down C m g l r) n h = omega arith

-- one child less, unless "that parent is the root with 2 children"
abbrev pub Remains : Context → ℕ → Type 0
Remains top n = 3 ≤ n
Remains (down C m g l r) n = Unit

pub remains_enough : (C : Context) (n m : ℕ) → 2 ≤ n → n ≡ suc m → Remains C n → Enough C m
remains_enough top n m h e o = omega arith
remains_enough (down C i g l r) n m h e o = omega arith

-- the two siblings are all the children, or others stand beside them: the same without numbers
at_least : (l : Left) (F : Forest) (r : Right) → length (roots F) ≤ length (roots (splice l F r))
at_least l F r = simp (roots_splice, length-append) (omega arith)

pub alone : (l : Left) (F : Forest) (r : Right) → 2 ≤ length (roots F) → length (roots (splice l F r)) ≡ 2 → root_of_two false (bare_left l) (bare_right r) ≡ true
alone [] F rightmost h e = refl
alone [] F (followed k f) h e = absurd (omega (arith, ap length (roots_join F k f), length-append (roots F) (roots f), routing_roots f))
alone (a ∷ l) F r h e = absurd (omega (arith, at_least l F r))

pub beside : (C : Context) (l : Left) (F : Forest) (r : Right) → length (roots F) ≡ 2 → Remains C (length (roots (splice l F r))) → root_of_two (tagged_in C) (bare_left l) (bare_right r) ≡ false
beside top [] F rightmost h o = absurd (omega arith)
beside top [] F (followed k f) h o = refl
beside top (a ∷ l) F r h o = refl
beside (down C m g i j) l F r h o = refl

-- the children of a parent, among them the only violation of the table
pub record OneViolation (f : Forest) : Type 0 where
  pub least : 2 ≤ length (roots f)
  pub most : length (roots f) ≤ 11
  pub widths : AllWidths f
  pub single : forest_violations f ≡ 1

-- Two siblings with a and b pairs or children, of which one is underfull: they have at most 12 together ..
pub together_le : (a b : ℕ) → 1 ≤ few a + few b → a ≤ 11 → b ≤ 11 → a + b ≤ 12
together_le a b u ha hb = order a 2 (λ o. omega arith) (λ o. order b 2 (λ s. omega arith) (λ s. omega (arith, few_none a o, few_none b s)))

-- the larger half of 4 to 12
pub half_size : (n : ℕ) → 4 ≤ n → n ≤ 12 → (2 ≤ half n) × (half n + 2 ≤ n) × (n ≤ half n + 6) × (half n ≤ 6)
unfolding half
half_size n h o = (omega arith, omega arith, omega arith, omega arith)

-- an internal node whose children have no violation
plain_shape : (C : Context) (m : ℕ) (f : Forest) → Enough C (length (roots f)) → length (roots f) ≤ 11 → AllWidths f → Shape C (node m false f)
plain_shape top m f a b w = (a, b, w)
plain_shape (down C n g l r) m f a b w = ((a, b), w)

plain_settled : (C : Context) (m : ℕ) (f : Forest) → forest_violations f ≡ 0 → violations_in C (node m false f) ≡ own_in C (node m false f)
plain_settled top m f z = z
plain_settled (down C n g l r) m f z = omega arith

plain_own : (C : Context) (m : ℕ) (f : Forest) → few (length (roots f)) ≤ 1 → own_in C (node m false f) ≤ 1
plain_own top m f h = omega arith
plain_own (down C n g l r) m f h = omega arith

pub same_height : (C : Context) (h : ℕ) → SameHeight C h h
same_height top h = tt
same_height (down C n g l r) h = refl

-- the parent p with the children f gives way to its new copy p' with the children g
module _ (C : Context) (p p' : ℕ) (f g : Forest) (new : List NewNode) (out : List ℕ) (x : Exchange f g new out) where
  copied_height : (h : ℕ) → Height h (node p false f) → (h' : ℕ) × Height h' (node p' false g) × SameHeight C h h'
  copied_height zero i = absurd i
  copied_height (suc h) i = (suc h, x.height h i, same_height C (suc h))

  pub copied : AllWidths f → Enough C (length (roots g)) → length (roots g) ≤ 11 → forest_violations g ≡ 0 → few (length (roots g)) ≤ 1
      → Rewrite C (node p false f) (node p' false g) (new ++ new_node p' 2 (routing g) (roots g) ∷ []) (p ∷ out)
  copied w a b z o =
      let P = new_node p' 2 (routing g) (roots g) in
      record {
        range = x.range;
        same_pairs = x.same_pairs;
        height = copied_height;
        shape = plain_shape C p' g a b (x.widths w);
        settled = plain_settled C p' g z;
        at_most_one = plain_own C p' g o;
        same_numbers = λ v. omega (arith, x.same_numbers v, numbers_append v new P);
        few = few_append new P x.few (omega (arith, routing_roots g)) b;
        represented = λ c i h. let u = words_append c new P h in (u.1, x.represented c i.1 u.0, b);
      }

-- widths of a join
pub widths_join : (f : Forest) (k : ℕ) (g : Forest) → AllWidths f → AllWidths g → AllWidths (join f k g)
widths_join (one t) k g p q = (p, q)
widths_join (more t x f) k g p q = (p.0, widths_join f k g p.1 q)

pub widths_unjoin : (f : Forest) (k : ℕ) (g : Forest) → AllWidths (join f k g) → AllWidths f × AllWidths g
widths_unjoin (one t) k g p = p
widths_unjoin (more t x f) k g p = let u = widths_unjoin f k g p.1 in ((p.0, u.0), u.1)

-- Two cuts of one forest: K is L, then key, then R, and L has h children. The lists of L and R are parts of those of K.
pub record Parts (h : ℕ) (K L : Forest) (key : ℕ) (R : Forest) : Type 0 where
  pub joined : join L key R ≡ K
  pub count : length (roots L) ≡ h

pub parts : (h : ℕ) (K : Forest) → 0 < h → h < length (roots K) → Parts h K (cut h K).left (cut h K).key (cut h K).right
parts h K z o = let u = cut_join h K z o in record { joined = u.0; count = u.1 }

module _ (h : ℕ) (K L : Forest) (key : ℕ) (R : Forest) (q : Parts h K L key R) where
  parts_roots : roots K ≡ roots L ++ roots R
  parts_roots = ap roots (sym q.joined) ∙ roots_join L key R

  parts_routing : routing K ≡ routing L ++ key ∷ routing R
  parts_routing = ap routing (sym q.joined) ∙ routing_join L key R

  pub parts_size : h + length (roots R) ≡ length (roots K)
  parts_size = rw parts_roots (omega (arith, length-append (roots L) (roots R), q.count))

  pub left_roots : take h (roots K) ≡ roots L
  left_roots = rw parts_roots (take_at (roots L) (roots R) h q.count)

  pub right_roots : drop h (roots K) ≡ roots R
  right_roots = rw parts_roots (drop_at (roots L) (roots R) h q.count)

  pub right_routing : drop h (routing K) ≡ routing R
  right_routing = let s : h ≡ suc (length (routing L)) = omega (arith, q.count, routing_roots L) in rw (parts_routing, s) (drop_past (routing L) key (routing R) (length (routing L)) refl)

  -- one key less than children
  module _ (i : ℕ) (e : i ≡ h - 1) where
    before_middle : length (routing L) ≡ i
    before_middle = omega (arith, q.count, routing_roots L)

    pub left_routing : take i (routing K) ≡ routing L
    left_routing = rw parts_routing (take_at (routing L) (key ∷ routing R) i before_middle)

    pub middle_key : get_or (routing K) i 0 ≡ key
    middle_key = rw parts_routing (get_or_at (routing L) key (routing R) 0 i before_middle)
