-- Document 01, "The changes", of internal nodes: a tagged node taken in by its parent, a parent of twelve split, and two
-- siblings shared out or merged, each as a rewrite of the parent.
use mathlib.Core.Path.{◌≡◌, refl, ap, sym, ◌∙◌}
use mathlib.Core.List.{List, [], ◌∷◌, ◌++◌}
use mathlib.Core.Bool.{true, false}
use Prim.Native.Nat.{ℕ, zero, suc, ◌+◌, ◌≤◌}
use native.Mathlib.Omega.{arith}
use lib.ListN.{length}
use Rattle.card.specs.NodeWords.{NodeWords}
use Rattle.card.specs.Stores.{NewNode, new_node}
use Rattle.change_plan.specs.Change.{half}
use Rattle.theory_change.proofs.Above.{above_height, above_shape, above_settled, above_own}
use Rattle.theory_change.proofs.Exchange.{Exchange, exchange_splice, enough, Remains, remains_enough, OneViolation, together_le}
use Rattle.theory_change.proofs.Exchange.{half_size, copied, widths_join, widths_unjoin, Parts, parts_size}
use Rattle.theory_shapes.proofs.Next.{tagged_in}
use Rattle.theory_change.proofs.Rewrite.{SameHeight, Rewrite}
use Rattle.laws.specs.Totals.{total}
use Rattle.theory_tree.specs.Pairs.{forest_pairs}
use Rattle.theory_tree.proofs.Pairs.{AllInRange, routing_roots}
use Rattle.theory_tree.specs.Represent.{kind, Represents, RepresentsAll}
use Rattle.theory_tree.proofs.Splice.{pairs_join, totals_join, range_join, range_unjoin, represents_join, height_join, height_unjoin, represents_unjoin}
use Rattle.theory_tree.specs.Height.{Height, AllHeight}
use Rattle.theory_tree.specs.Tree.{Tree, Forest, roots, routing, node_totals, node, one, more}
use Rattle.theory_tree.proofs.Tree.{Left, Right, join, splice, Context, rightmost, followed, top, down}
use Rattle.theory_tree.proofs.Violations.{few_le, few_none, violations_join, violations_splice, widths_splice, size_splice}
use Rattle.theory_tree.specs.Violations.{few, forest_violations, AllWidths}

-- two internal nodes side by side
abbrev pub inner_pair : ℕ → Forest → ℕ → ℕ → Forest → Forest
inner_pair x f k y g = more (node x false f) k (one (node y false g))

-- Their children joined ("Internal nodes bring the routing key between them down") ..
joined_range : (lo hi x : ℕ) (f : Forest) (k y : ℕ) (g : Forest) → AllInRange lo hi (inner_pair x f k y g) → AllInRange lo hi (join f k g)
joined_range lo hi x f k y g i = range_join lo hi f k g i.0 i.1 i.2 i.3

joined_height : (h x : ℕ) (f : Forest) (k y : ℕ) (g : Forest) → AllHeight h (inner_pair x f k y g) → (h' : ℕ) × (h ≡ suc h') × AllHeight h' (join f k g)
joined_height zero x f k y g i = absurd i.0
joined_height (suc h) x f k y g i = (h, refl, height_join h f k g i.0 i.1)

-- .. and a forest K parted between two new nodes a and b ("sharing sends one up")
module _ (n : ℕ) (K L : Forest) (key : ℕ) (R : Forest) (q : Parts n K L key R) (a b : ℕ) where
  parted_range : (lo hi : ℕ) → AllInRange lo hi K → AllInRange lo hi (inner_pair a L key b R)
  parted_range lo hi i = let j : AllInRange lo hi (join L key R) = rw q.joined i in range_unjoin lo hi L key R j

  parted_pairs : forest_pairs (inner_pair a L key b R) ≡ forest_pairs K
  parted_pairs = sym (pairs_join L key R) ∙ ap forest_pairs q.joined

  parted_height : (h : ℕ) → AllHeight h K → AllHeight (suc h) (inner_pair a L key b R)
  parted_height h i = let j : AllHeight h (join L key R) = rw q.joined i in height_unjoin h L key R j

  parted_totals : (w : ℕ → ℕ) → node_totals w (inner_pair a L key b R) ≡ w a + w b + node_totals w K
  parted_totals w = omega (arith, totals_join w L key R, ap (node_totals w) q.joined)

  parted_violations : forest_violations (inner_pair a L key b R) ≡ few (length (roots L)) + few (length (roots R)) + forest_violations K
  parted_violations = omega (arith, violations_join L key R, ap forest_violations q.joined)

  parted_widths : 1 ≤ length (roots L) → length (roots L) ≤ 11 → 1 ≤ length (roots R) → length (roots R) ≤ 11 → AllWidths K → AllWidths (inner_pair a L key b R)
  parted_widths hl hl' hr hr' i = let j : AllWidths (join L key R) = rw q.joined i in let u = widths_unjoin L key R j in (((hl, hl'), u.0), ((hr, hr'), u.1))

  parted_represented : (c : List ℕ) → length (roots L) ≤ 11 → length (roots R) ≤ 11 → NodeWords c a 2 (routing L) (roots L)
      → NodeWords c b 2 (routing R) (roots R) → RepresentsAll c K → RepresentsAll c (inner_pair a L key b R)
  parted_represented c hl hr wl wr i = let j : RepresentsAll c (join L key R) = rw q.joined i in let u = represents_unjoin c L key R j in ((wl, u.0, hl), (wr, u.1, hr))

-- "New nodes are given and written left, right, then above": two new internal nodes side by side, and with the one above them
abbrev pub new_siblings : ℕ → Forest → ℕ → Forest → List NewNode
new_siblings a L b R = new_node a 2 (routing L) (roots L) ∷ new_node b 2 (routing R) (roots R) ∷ []

abbrev pub parted_nodes : ℕ → ℕ → ℕ → ℕ → Forest → ℕ → Forest → List NewNode
parted_nodes kd a b c L key R = new_siblings a L b R ++ new_node c kd (key ∷ []) (a ∷ b ∷ []) ∷ []

-- on the card the node above is tagged or not as its kind says
above_represented : (C : Context) (c : List ℕ) (m : ℕ) (f : Forest) → NodeWords c m (kind (tagged_in C)) (routing f) (roots f)
    → RepresentsAll c f → length (roots f) ≤ 11 → Represents c (node m (tagged_in C) f)
above_represented top c m f w i h = (w, i, h)
above_represented (down C n g l r) c m f w i h = (w, i, h)

-- A parent p with the children f, which became the twelve children K without violations: "the 12 children go 6 and 6 into two
-- internal nodes, the middle key above them in a tagged node (internal if it is the root)"
module _ (C : Context) (p : ℕ) (f K : Forest) (out : List ℕ) (x : Exchange f K [] out) (L : Forest) (key : ℕ) (R : Forest) (q : Parts 6 K L key R) (twelve : length (roots K) ≡ 12) (a b c : ℕ) where
  parted_height_of : (h : ℕ) → Height h (node p false f) → (h' : ℕ) × Height h' (node c (tagged_in C) (inner_pair a L key b R)) × SameHeight C h h'
  parted_height_of zero i = absurd i
  parted_height_of (suc h) i = above_height C c (suc h) (inner_pair a L key b R) (parted_height 6 K L key R q a b h (x.height h i))

  pub parted : AllWidths f → forest_violations K ≡ 0 → Rewrite C (node p false f) (node c (tagged_in C) (inner_pair a L key b R)) (parted_nodes (kind (tagged_in C)) a b c L key R) (p ∷ out)
  parted w z =
      let n = parts_size 6 K L key R q in
      let m = q.count in
      let two = inner_pair a L key b R in
      record {
        range = λ lo hi o i. parted_range 6 K L key R q a b lo hi (x.range lo hi o i);
        same_pairs = λ v. ap (total v) (parted_pairs 6 K L key R q a b) ∙ x.same_pairs v;
        height = parted_height_of;
        shape = above_shape C c two refl (parted_widths 6 K L key R q a b (omega arith) (omega arith) (omega arith) (omega arith) (x.widths w));
        settled = above_settled C c two (omega (arith, parted_violations 6 K L key R q a b, few_none (length (roots L)) (omega arith), few_none (length (roots R)) (omega arith)));
        at_most_one = above_own C c two refl;
        same_numbers = λ v. omega (arith, x.same_numbers v, parted_totals 6 K L key R q a b v);
        few = ((omega (arith, routing_roots L), omega arith), ((omega (arith, routing_roots R), omega arith), ((omega arith, omega arith), tt)));
        represented = λ d i h. above_represented C d c two h.1.1.0
            (parted_represented 6 K L key R q a b d (omega arith) (omega arith) h.0 h.1.0 (x.represented d i.1 tt)) (omega arith);
      }

-- "Tagged node": a tagged node q with its two children
abbrev pub tagged_child : ℕ → Tree → ℕ → Tree → Forest
tagged_child q a k b = one (node q true (more a k (one b)))

absorb_exchange : (q : ℕ) (a : Tree) (k : ℕ) (b : Tree) → Exchange (tagged_child q a k b) (more a k (one b)) [] (q ∷ [])
absorb_exchange q a k b = record { range = λ lo hi z i. i; same_pairs = λ w. refl; height = λ h i. i; widths = λ i. i.1; same_numbers = λ w. omega arith; few = tt; represented = λ c i h. i.1 }

module _ (C : Context) (p : ℕ) (l : Left) (q : ℕ) (a : Tree) (k : ℕ) (b : Tree) (r : Right) (v : OneViolation (splice l (tagged_child q a k b) r)) where
  abbrev kids : Forest
  kids = splice l (more a k (one b)) r

  taken_in : Exchange (splice l (tagged_child q a k b) r) kids [] (q ∷ [])
  taken_in = exchange_splice l (tagged_child q a k b) (more a k (one b)) r [] (q ∷ []) (absorb_exchange q a k b)

  taken_in_size : length (roots kids) ≡ suc (length (roots (splice l (tagged_child q a k b) r)))
  taken_in_size = omega (arith, size_splice l (tagged_child q a k b) (more a k (one b)) r)

  taken_in_settled : forest_violations kids ≡ 0
  taken_in_settled = omega (arith, violations_splice l (tagged_child q a k b) (more a k (one b)) r, v.single)

  -- "parent with at most 10 children: a new copy of the parent takes its key and children in"
  pub absorb_rewrite : (a' : ℕ) → length (roots (splice l (tagged_child q a k b) r)) ≤ 10
      → Rewrite C (node p false (splice l (tagged_child q a k b) r)) (node a' false kids) (new_node a' 2 (routing kids) (roots kids) ∷ []) (p ∷ q ∷ [])
  absorb_rewrite a' h =
      let n = taken_in_size in
      let m = v.least in
      copied C p a' (splice l (tagged_child q a k b) r) kids [] (q ∷ []) taken_in v.widths (enough C (length (roots kids)) (omega arith))
      (omega arith) taken_in_settled (omega (arith, few_none (length (roots kids)) (omega arith)))

  -- "Parent with 11": twelve children, parted
  pub split_rewrite : (L : Forest) (key : ℕ) (R : Forest) → Parts 6 kids L key R → (a' b' c' : ℕ) → length (roots (splice l (tagged_child q a k b) r)) ≡ 11
      → Rewrite C (node p false (splice l (tagged_child q a k b) r)) (node c' (tagged_in C) (inner_pair a' L key b' R)) (parted_nodes (kind (tagged_in C)) a' b' c' L key R) (p ∷ q ∷ [])
  split_rewrite L key R u a' b' c' h = parted C p (splice l (tagged_child q a k b) r) kids (q ∷ []) taken_in L key R u (omega (arith, taken_in_size)) a' b' c' v.widths taken_in_settled

-- "Underfull non-root node": of two siblings with f and g as their children one is underfull
abbrev pub Underfull : Forest → Forest → Type 0
Underfull f g = 1 ≤ few (length (roots f)) + few (length (roots g))

-- two siblings x and y, and their children joined
module _ (x : ℕ) (fx : Forest) (k y : ℕ) (fy : Forest) where
  abbrev both : Forest
  both = join fx k fy

  old_parts : Parts (length (roots fx)) both fx k fy
  old_parts = record { joined = refl; count = refl }

  pub together : length (roots both) ≡ length (roots fx) + length (roots fy)
  together = sym (parts_size (length (roots fx)) both fx k fy old_parts)

  old_totals : (w : ℕ → ℕ) → node_totals w (inner_pair x fx k y fy) ≡ w x + w y + node_totals w both
  old_totals w = parted_totals (length (roots fx)) both fx k fy old_parts x y w

  old_violations : forest_violations (inner_pair x fx k y fy) ≡ few (length (roots fx)) + few (length (roots fy)) + forest_violations both
  old_violations = parted_violations (length (roots fx)) both fx k fy old_parts x y

  old_pairs : (w : ℕ × ℕ → ℕ) → total w (forest_pairs both) ≡ total w (forest_pairs (inner_pair x fx k y fy))
  old_pairs w = ap (total w) (sym (parted_pairs (length (roots fx)) both fx k fy old_parts x y))

  joined_widths : AllWidths (inner_pair x fx k y fy) → AllWidths both
  joined_widths i = widths_join fx k fy i.0.1 i.1.1

  joined_represented : (c : List ℕ) → RepresentsAll c (inner_pair x fx k y fy) → RepresentsAll c both
  joined_represented c i = represents_join c fx k fy i.0.1 i.1.1

  share_exchange : (n : ℕ) (L : Forest) (key : ℕ) (R : Forest) → Parts n both L key R → 2 ≤ length (roots L) → length (roots L) ≤ 11 → 2 ≤ length (roots R) → length (roots R) ≤ 11 → (a b : ℕ)
      → Exchange (inner_pair x fx k y fy) (inner_pair a L key b R) (new_siblings a L b R) (x ∷ y ∷ [])
  share_exchange n L key R q l2 l11 r2 r11 a b =
      record {
        range = λ lo hi z i. parted_range n both L key R q a b lo hi (joined_range lo hi x fx k y fy i);
        same_pairs = λ w. ap (total w) (parted_pairs n both L key R q a b) ∙ old_pairs w;
        height = λ h i. let u = joined_height h x fx k y fy i in rw u.1 (parted_height n both L key R q a b u.0 u.2);
        widths = λ i. parted_widths n both L key R q a b (omega arith) l11 (omega arith) r11 (joined_widths i);
        same_numbers = λ w. omega (arith, parted_totals n both L key R q a b w, old_totals w);
        few = ((omega (arith, routing_roots L), l11), ((omega (arith, routing_roots R), r11), tt));
        represented = λ c i h. parted_represented n both L key R q a b c l11 r11 h.0 h.1.0 (joined_represented c i);
      }

  merge_exchange : 1 ≤ length (roots both) → length (roots both) ≤ 11 → (a : ℕ)
      → Exchange (inner_pair x fx k y fy) (one (node a false both)) (new_node a 2 (routing both) (roots both) ∷ []) (x ∷ y ∷ [])
  merge_exchange h1 h11 a =
      record {
        range = λ lo hi z i. joined_range lo hi x fx k y fy i;
        same_pairs = old_pairs;
        height = λ h i. let u = joined_height h x fx k y fy i in rw u.1 u.2;
        widths = λ i. ((h1, h11), joined_widths i);
        same_numbers = λ w. omega (arith, old_totals w);
        few = ((omega (arith, routing_roots both), h11), tt);
        represented = λ c i h. (h.0, joined_represented c i, h11);
      }

  -- x and y are children of p, and one of them is the violation
  module _ (C : Context) (p : ℕ) (l : Left) (r : Right) (v : OneViolation (splice l (inner_pair x fx k y fy) r)) (u : Underfull fx fy) where
    two_widths : AllWidths (inner_pair x fx k y fy)
    two_widths = (widths_splice l (inner_pair x fx k y fy) r v.widths).0

    -- children G with no violation but those of the joined ones leave the parent none
    mended : (G : Forest) → forest_violations G ≡ forest_violations both → (forest_violations (splice l G r) ≡ 0) × (few (length (roots fx)) + few (length (roots fy)) ≡ 1)
    mended G e = (omega (arith, violations_splice l (inner_pair x fx k y fy) G r, v.single, old_violations), omega (arith, violations_splice l (inner_pair x fx k y fy) G r, v.single, old_violations))

    -- "Together 4 or more: shared out, the left one getting the larger half, under a new copy of the parent."
    pub share_rewrite : (n : ℕ) → n ≡ length (roots fx) + length (roots fy) → 4 ≤ n → (L : Forest) (key : ℕ) (R : Forest) → Parts (half n) both L key R → (a b c : ℕ)
        → Rewrite C (node p false (splice l (inner_pair x fx k y fy) r)) (node c false (splice l (inner_pair a L key b R) r))
        (new_siblings a L b R ++ new_node c 2 (routing (splice l (inner_pair a L key b R) r)) (roots (splice l (inner_pair a L key b R) r)) ∷ [])
        (p ∷ x ∷ y ∷ [])
    share_rewrite n e h L key R q a b c =
        let old = inner_pair x fx k y fy in
        let new = inner_pair a L key b R in
        let wx = two_widths.0.0 in
        let wy = two_widths.1.0 in
        let s = half_size n h (omega (arith, together_le (length (roots fx)) (length (roots fy)) u wx.1 wy.1)) in
        let m = q.count in
        let t = parts_size (half n) both L key R q in
        let j = together in
        let z = size_splice l old new r in
        let d = v.least in
        let d' = v.most in
        let g = mended new (omega (arith, parted_violations (half n) both L key R q a b, few_none (length (roots L)) (omega arith), few_none (length (roots R)) (omega arith))) in
        copied C p c (splice l old r) (splice l new r) (new_siblings a L b R) (x ∷ y ∷ [])
        (exchange_splice l old new r (new_siblings a L b R) (x ∷ y ∷ []) (share_exchange (half n) L key R q (omega arith) (omega arith) (omega arith) (omega arith) a b))
        v.widths (enough C (length (roots (splice l new r))) (omega arith)) (omega arith) g.0 (omega (arith, few_none (length (roots (splice l new r))) (omega arith)))

    -- "Together 3 or fewer: merged, the parent copied with one child less"
    pub merge_rewrite : length (roots fx) + length (roots fy) ≤ 3 → Remains C (length (roots (splice l (inner_pair x fx k y fy) r))) → (a b : ℕ)
        → Rewrite C (node p false (splice l (inner_pair x fx k y fy) r)) (node b false (splice l (one (node a false both)) r))
        (new_node a 2 (routing both) (roots both) ∷ new_node b 2 (routing (splice l (one (node a false both)) r)) (roots (splice l (one (node a false both)) r)) ∷ []) (p ∷ x ∷ y ∷ [])
    merge_rewrite h o a b =
        let old = inner_pair x fx k y fy in
        let new = one (node a false both) in
        let wx = two_widths.0.0 in
        let wy = two_widths.1.0 in
        let j = together in
        let z = size_splice l old new r in
        let d = v.least in
        let d' = v.most in
        let g = mended new (omega (arith, few_none (length (roots both)) (omega arith))) in
        copied C p b (splice l old r) (splice l new r) (new_node a 2 (routing both) (roots both) ∷ []) (x ∷ y ∷ [])
        (exchange_splice l old new r (new_node a 2 (routing both) (roots both) ∷ []) (x ∷ y ∷ []) (merge_exchange (omega arith) (omega arith) a))
        v.widths (remains_enough C (length (roots (splice l old r))) (length (roots (splice l new r))) d (omega arith) o) (omega arith) g.0 (few_le (length (roots (splice l new r))))

  -- "if that parent is the root with 2 children, the merged node becomes the root"
  module _ (p : ℕ) (v : OneViolation (inner_pair x fx k y fy)) (u : Underfull fx fy) where
    sunk_height : (a h : ℕ) → Height h (node p false (inner_pair x fx k y fy)) → (h' : ℕ) × Height h' (node a false both) × SameHeight top h h'
    sunk_height a zero i = absurd i
    sunk_height a (suc h) i = let s = joined_height h x fx k y fy i in (suc s.0, s.2, tt)

    merge_root_lem : length (roots fx) + length (roots fy) ≤ 3 → (a : ℕ)
        → Rewrite top (node p false (inner_pair x fx k y fy)) (node a false both) (new_node a 2 (routing both) (roots both) ∷ []) (p ∷ x ∷ y ∷ [])
    merge_root_lem h a =
        let w = v.widths in
        let wx = w.0.0 in
        let wy = w.1.0 in
        let j = together in
        record {
          range = λ lo hi z i. joined_range lo hi x fx k y fy i;
          same_pairs = old_pairs;
          height = sunk_height a;
          shape = (omega arith, omega arith, joined_widths w);
          settled = omega (arith, old_violations, v.single);
          at_most_one = omega arith;
          same_numbers = λ s. omega (arith, old_totals s);
          few = ((omega (arith, routing_roots both), omega arith), tt);
          represented = λ c i s. (s.0, joined_represented c i.1, omega arith);
        }

-- two children are all that the root has, so nothing stands left or right of them
pub merge_root_rewrite : (x : ℕ) (fx : Forest) (k y : ℕ) (fy : Forest) (p : ℕ) (l : Left) (r : Right) → OneViolation (splice l (inner_pair x fx k y fy) r) → Underfull fx fy
    → length (roots (splice l (inner_pair x fx k y fy) r)) ≡ 2 → length (roots fx) + length (roots fy) ≤ 3 → (a : ℕ)
    → Rewrite top (node p false (splice l (inner_pair x fx k y fy) r)) (node a false (join fx k fy)) (new_node a 2 (routing (join fx k fy)) (roots (join fx k fy)) ∷ []) (p ∷ x ∷ y ∷ [])
merge_root_rewrite x fx k y fy p [] rightmost v u e h a = merge_root_lem x fx k y fy p v u h a
merge_root_rewrite x fx k y fy p [] (followed i f) v u e h a = absurd (omega (arith, routing_roots f))
merge_root_rewrite x fx k y fy p (z ∷ l) r v u e h a =
    let fewer = one (node x false fx) in
    absurd (omega (arith, size_splice l fewer (inner_pair x fx k y fy) r, routing_roots (splice l fewer r)))
