-- What an accepted part shows: the check of a part gives back a height and findings only where the card holds a sound tree there,
-- of that height, and the findings are those of the tree.
use mathlib.Core.Path.{◌≡◌, refl, ap, ap₂, sym, ◌∙◌, subst}
use mathlib.Core.List.{List, [], ◌∷◌}
use mathlib.Core.Bool.{Bool, true, false, ◌&&◌, ◌||◌}
use mathlib.Core.Option.{Option, none, some, none-ne-some, some-injective}
use mathlib.Core.Logic.{by_cases}
use Prim.Native.Nat.{ℕ, zero, suc, ◌+◌, ◌-◌, ◌*◌, ◌≤◌, ◌<◌}
use native.Mathlib.Omega.{arith}
use native.Mathlib.Decide.{ℕ_discrete}
use lib.ListN.{length, get_or}
use lib.Dec.{ltb, eqb}
use borrow.Author.Tests.{ltb-true, eqb-true}
use Rattle.card.specs.Layout.{node_at, kind_of, key_words, value_words, children, routing_keys, slot_pairs, run_below}
use Rattle.card.proofs.NodeLaws.{length_node, node_word, length_key_words, length_value_words, get_key_word, get_value_word, children_le, length_routing}
use Rattle.card.specs.NodeWords.{OnCard, NodeWords}
use Rattle.laws.specs.Bits.{bit}
use Rattle.laws.specs.Cases.{pick, guard, bind}
use Rattle.laws.proofs.Cases.{and_true, guard_some, bind_some, impossible}
use Rattle.laws.proofs.Lists.{before_zero_take, get_d_zero_after}
use Rattle.laws.specs.Lists.{zero_after}
use Rattle.laws.specs.Totals.{indicator}
use Rattle.laws.proofs.Totals.{indicator_other, indicator_le}
use Rattle.card_check.specs.Check.{Findings, unused_zero, Look, enter_node, ChildCheck, children_check, raised, on_look, node_check, bad, inner, leaf as leaf_look, range_end}
use Rattle.theory_check.proofs.Entering.{Present, few_pairs, LeafEntry, width, InnerEntry, Enters, enter_shown, as_leaf, as_inner}
use Rattle.theory_check.proofs.Found.{one_of, taken, note, at_root, found, found_below, is_free, WidthsAt, own_at}
use Rattle.theory_check.proofs.Leaves.{leaf_range}
use Rattle.theory_check.proofs.Parts.{SoundPart, SoundParts, part_one, widths_node, part_more, part_node}
use Rattle.theory_tree.proofs.Pairs.{child}
use Rattle.theory_tree.specs.Represent.{kind}
use Rattle.theory_tree.specs.Tree.{Tree, Forest, root, roots, routing, leaf, node, one, more}

-- ---- the steps of the check

pub zero_step : (c : List ℕ) (n run : ℕ) (is_root : Bool) (low high m : ℕ) (f : Findings)
    → node_check 0 c n run is_root low high m f ≡ on_look (node_at c m) low high (λ r l h k g. none) run (enter_node c n m low high run is_root f)
unfolding node_check
zero_step c n run is_root low high m f = refl

pub suc_step : (levels : ℕ) (c : List ℕ) (n run : ℕ) (is_root : Bool) (low high m : ℕ) (f : Findings)
    → node_check (suc levels) c n run is_root low high m f ≡ on_look (node_at c m) low high (λ r. node_check levels c n r false) run (enter_node c n m low high run is_root f)
unfolding node_check
suc_step levels c n run is_root low high m f = refl

raised_some : (tagged : Bool) (o : Option (ℕ × Findings)) (r : ℕ × Findings) → raised tagged o ≡ some r → (q : ℕ × Findings) × (o ≡ some q) × ((pick tagged q.0 (suc q.0), q.1) ≡ r)
unfolding raised
raised_some tagged none r e = absurd (none-ne-some r e)
raised_some tagged (some q) r e = (q, refl, some-injective (pick tagged q.0 (suc q.0), q.1) r e)

pub kind_tagged : (words : List ℕ) (g : Bool) → kind_of words ≡ kind g → eqb (kind_of words) 3 ≡ g
kind_tagged words true k = rw k
kind_tagged words false k = rw k

-- all children are equally high: the first sets the height
same_height : (first : Bool) (a b : ℕ) → (first || eqb a b) ≡ true → first ≡ false → a ≡ b
same_height true a b e z = impossible (cc)
same_height false a b e z = eqb-true a b e

-- ---- what is shown

-- a check that gave back r shows a tree; the check of all children of a node shows a forest
pub record Shown (c : List ℕ) (is_root : Bool) (run low high m bound : ℕ) (f : Findings) (r : ℕ × Findings) : Type 0 where
  pub tree : Tree
  pub is_root_lem : root tree ≡ m
  pub part : SoundPart c is_root low high r.0 bound f tree
  pub after : r.1 ≡ found is_root run low tree f

pub record AllShown (c : List ℕ) (first : Bool) (height run low high : ℕ) (ks ms : List ℕ) (bound : ℕ) (f : Findings) (r : ℕ × Findings) : Type 0 where
  pub forest : Forest
  pub are_roots : roots forest ≡ ms
  pub are_keys : routing forest ≡ ks
  pub parts : SoundParts c low high r.0 bound f forest
  pub same : first ≡ false → r.0 ≡ height
  pub after : r.1 ≡ found_below run low forest f

module _ (c : List ℕ) (n : ℕ) (len : length c ≡ 8 + 24 * n) where
  on_card_lem : (m : ℕ) → 0 < m → m ≤ n → OnCard c m
  on_card_lem m p q = record { pos = p; fits = omega arith }

  present_free : (m : ℕ) (f : Findings) → Present c n m f → (i : ℕ) → indicator i m ≤ is_free f i
  present_free m f p i =
      by_cases (ℕ_discrete i m)
      (λ e. let z : is_free f i ≡ 1 = ap bit (ap (λ (j : ℕ). get_or f.free j false) e ∙ p.free) in omega (arith, indicator_le i m))
      (λ d. omega (arith, indicator_other i m d))

  present_words : (m : ℕ) (f : Findings) (k : ℕ) (a b : List ℕ) → Present c n m f → kind_of (node_at c m) ≡ k
      → ((j : ℕ) → j < 11 → get_or (key_words (node_at c m)) j 0 ≡ get_or a j 0) → ((j : ℕ) → j < 11 → get_or (value_words (node_at c m)) j 0 ≡ get_or b j 0) → NodeWords c m k a b
  present_words m f k a b p e low high =
      record {
        on = on_card_lem m p.pos p.within;
        kind = sym (node_word c m 0 (omega arith)) ∙ e;
        low = λ j h. sym (node_word c m (1 + j) (omega arith)) ∙ sym (get_key_word (node_at c m) j h) ∙ low j h;
        high = λ j h. sym (node_word c m (12 + j) (omega arith)) ∙ sym (get_value_word (node_at c m) j h) ∙ high j h;
        last = sym (node_word c m 23 (omega arith)) ∙ p.last;
      }

  present_length : (m : ℕ) (f : Findings) → Present c n m f → length (node_at c m) ≡ 24
  present_length m f p = length_node c m p.pos (on_card_lem m p.pos p.within).fits

  leaf_widths : (is_root : Bool) (m : ℕ) (ks vs : List ℕ) → (is_root ≡ false → 1 ≤ length (slot_pairs ks vs)) → WidthsAt is_root (leaf m ks vs)
  leaf_widths true m ks vs h = tt
  leaf_widths false m ks vs h = h refl

  leaf_shown : (is_root : Bool) (run low high m bound : ℕ) (f : Findings) → Present c n m f → LeafEntry (node_at c m) low high is_root f.violated
      → Shown c is_root run low high m (suc bound) f (0, note (few_pairs is_root (node_at c m)) low 0 (taken m f))
  leaf_shown is_root run low high m bound f p e =
      let words : List ℕ = node_at c m in
      let t : Tree = leaf m (key_words words) (value_words words) in
      let w : WidthsAt is_root t = leaf_widths is_root m (key_words words) (value_words words) e.filled in
      let size = present_length m f p in
      record {
        tree = t;
        is_root_lem = refl;
        part =
            record {
              represents = (present_words m f 1 (key_words words) (value_words words) p e.kind_is (λ j h. refl) (λ j h. refl), length_key_words words size, length_value_words words size);
              range = leaf_range low high (key_words words) (value_words words) e.sound;
              widths = w;
              height = refl;
              once_violated = omega (arith, own_at is_root t w, one_of f.violated (few_pairs is_root words) e.first);
              free = present_free m f p;
              deep = omega arith;
            };
        after = refl;
      }

  children_shown : (bound run : ℕ) (check : ChildCheck) → ((low high m : ℕ) (f : Findings) (r : ℕ × Findings) → check low high m f ≡ some r → Shown c false run low high m bound f r)
      → (first : Bool) (height low high : ℕ) (ks ms : List ℕ) (f : Findings) (r : ℕ × Findings) → length ms ≡ suc (length ks) → children_check check first height low high ks ms f ≡ some r
      → AllShown c first height run low high ks ms bound f r
  unfolding children_check range_end
  children_shown bound run check ih first height low high ks [] f r z e = absurd (omega arith)
  children_shown bound run check ih first height low high [] (m ∷ x ∷ ms) f r z e = absurd (omega arith)
  children_shown bound run check ih first height low high (k ∷ ks) (m ∷ []) f r z e = absurd (omega arith)
  children_shown bound run check ih first height low high [] (m ∷ []) f r z e =
      let b = bind_some (check low high m f) (λ q. guard (first || eqb q.0 height) (some (q.0, q.1))) r e in
      let g = guard_some (first || eqb b.0.0 height) (some (b.0.0, b.0.1)) r b.2 in
      let s = ih low high m f r (b.1 ∙ g.1) in
      record {
        forest = one s.tree;
        are_roots = ap (λ (x : ℕ). x ∷ []) s.is_root_lem;
        are_keys = refl;
        parts = part_one s.part;
        same = λ q. ap (λ (x : Option (ℕ × Findings)). height_in x) (sym g.1) ∙ same_height first b.0.0 height g.0 q;
        after = s.after;
      }
    where
      height_in : Option (ℕ × Findings) → ℕ
      height_in none = 0
      height_in (some q) = q.0
  children_shown bound run check ih first height low high (k ∷ ks) (m ∷ x ∷ ms) f r z e =
      let t = bind_some (guard (ltb low k && ltb k high) (some k))
      (λ end. bind (check low end m f) (λ q. guard (first || eqb q.0 height) (children_check check false q.0 end high ks (x ∷ ms) q.1))) r e in
      let a = guard_some (ltb low k && ltb k high) (some k) t.0 t.1 in
      let o = and_true (ltb low k) (ltb k high) a.0 in
      let end : k ≡ t.0 = cc in
      let b = bind_some (check low k m f) (λ q. guard (first || eqb q.0 height) (children_check check false q.0 k high ks (x ∷ ms) q.1)) r (rw end t.2) in
      let g = guard_some (first || eqb b.0.0 height) (children_check check false b.0.0 k high ks (x ∷ ms) b.0.1) r b.2 in
      join_shown b.0 (ltb-true low k o.0) (ltb-true k high o.1) (same_height first b.0.0 height g.0) (ih low k m f b.0 b.1)
      (children_shown bound run check ih false b.0.0 k high ks (x ∷ ms) b.0.1 r (omega arith) g.1)
    where
      join_shown : (q : ℕ × Findings) → low < k → k < high → (first ≡ false → q.0 ≡ height) → Shown c false run low k m bound f q → AllShown c false q.0 run k high ks (x ∷ ms) bound q.1 r
          → AllShown c first height run low high (k ∷ ks) (m ∷ x ∷ ms) bound f r
      join_shown q a b h s t =
          let e : r.0 ≡ q.0 = t.same refl in
          record {
            forest = more s.tree k t.forest;
            are_roots = ap₂ (λ (x : ℕ) (y : List ℕ). x ∷ y) s.is_root_lem t.are_roots;
            are_keys = ap (λ (y : List ℕ). k ∷ y) t.are_keys;
            parts = part_more run (rw e s.part) a b (rw s.after at t.parts);
            same = λ z. e ∙ h z;
            after = t.after ∙ ap (found_below run k t.forest) s.after;
          }

  inner_shown : (is_root : Bool) (run low high m bound : ℕ) (f : Findings) (g : Bool) (r : ℕ × Findings) → Present c n m f → InnerEntry (node_at c m) g is_root f.violated
      → AllShown c true 0 (run_below (width (node_at c m)) run) low high (routing_keys (node_at c m)) (children (node_at c m)) bound
      (note (g || ltb (width (node_at c m)) 2) low (pick g run 0) (taken m f)) r
      → Shown c is_root run low high m (suc bound) f (pick g r.0 (suc r.0), r.1)
  unfolding routing_keys children unused_zero
  inner_shown is_root run low high m bound f g r p e s =
      let words : List ℕ = node_at c m in
      let k : Forest = s.forest in
      let size = present_length m f p in
      let u = and_true (zero_after (width words - 1) (key_words words)) (zero_after (width words) (value_words words)) e.unused in
      let q : length (roots k) ≡ width words = ap length s.are_roots in
      let w : WidthsAt is_root (node m g k) = widths_node is_root m g k (width words) (sym q) e.sound e.filled (children_le words) s.parts.widths in
      let v : (g || ltb (length (roots k)) 2) ≡ (g || ltb (width words) 2) = ap (λ (x : ℕ). g || ltb x 2) q in
      let a : at_root is_root run low (node m g k) f ≡ note (g || ltb (width words) 2) low (pick g run 0) (taken m f) = ap (λ (b : Bool). note b low (pick g run 0) (taken m f)) v in
      record {
        tree = node m g k;
        is_root_lem = refl;
        part =
            part_node is_root run m g
            (present_words m f (kind g) (routing k) (roots k) p e.kind_is
            (λ j h. get_d_zero_after (width words - 1) (key_words words) j u.0 ∙ ap (λ (l : List ℕ). get_or l j 0) (sym s.are_keys))
            (λ j h. get_d_zero_after (width words) (value_words words) j u.1 ∙ ap (λ (l : List ℕ). get_or l j 0) (before_zero_take (value_words words) ∙ sym s.are_roots)))
            (omega (arith, children_le words)) w (λ z. e.first (sym v ∙ z)) (present_free m f p) (rw a s.parts);
        after = s.after ∙ ap₂ (λ (x : ℕ) (y : Findings). found_below (run_below x run) low k y) (sym q) (sym a);
      }

  look_shown : (child : ℕ → ChildCheck) (bound : ℕ) → ((run low high m : ℕ) (f : Findings) (r : ℕ × Findings) → child run low high m f ≡ some r → Shown c false run low high m bound f r)
      → (is_root : Bool) (run low high m : ℕ) (f : Findings) (r : ℕ × Findings)
      → on_look (node_at c m) low high child run (enter_node c n m low high run is_root f) ≡ some r → Shown c is_root run low high m (suc bound) f r
  unfolding on_look
  look_shown child bound ih is_root run low high m f r e = look (enter_node c n m low high run is_root f) refl e
    where
      here : Bool → Findings
      here g = note (g || ltb (width (node_at c m)) 2) low (pick g run 0) (taken m f)

      below_check : Bool → Option (ℕ × Findings)
      below_check g = children_check (child (run_below (width (node_at c m)) run)) true 0 low high (routing_keys (node_at c m)) (children (node_at c m)) (here g)

      inside : (g : Bool) → Present c n m f → InnerEntry (node_at c m) g is_root f.violated → (q : ℕ × Findings) → below_check g ≡ some q
          → (pick g q.0 (suc q.0), q.1) ≡ r → Shown c is_root run low high m (suc bound) f r
      inside g p h q e t =
          subst (λ (x : ℕ × Findings). Shown c is_root run low high m (suc bound) f x) t
          (inner_shown is_root run low high m bound f g q p h
          (children_shown bound (run_below (width (node_at c m)) run) (child (run_below (width (node_at c m)) run))
          (ih (run_below (width (node_at c m)) run)) true 0 low high (routing_keys (node_at c m)) (children (node_at c m)) (here g) q
          (omega (arith, length_routing (node_at c m) (present_length m f p), h.filled)) e))

      entered : (L : Look) → Enters c n m low high run is_root f L → on_look (node_at c m) low high child run L ≡ some r → Shown c is_root run low high m (suc bound) f r
      entered L (as_leaf p h) e =
          subst (λ (q : ℕ × Findings). Shown c is_root run low high m (suc bound) f q)
          (some-injective (0, note (few_pairs is_root (node_at c m)) low 0 (taken m f)) r e) (leaf_shown is_root run low high m bound f p h)
      entered L (as_inner g p h) e = let q = raised_some g (below_check g) r (rw (kind_tagged (node_at c m) g h.kind_is) at e) in inside g p h q.0 q.1 q.2

      look : (L : Look) → enter_node c n m low high run is_root f ≡ L → on_look (node_at c m) low high child run L ≡ some r → Shown c is_root run low high m (suc bound) f r
      look bad q e = absurd (none-ne-some r e)
      look (leaf_look g) q e = entered (leaf_look g) (enter_shown c n m low high run is_root f (leaf_look g) tt q) e
      look (inner k g) q e = entered (inner k g) (enter_shown c n m low high run is_root f (inner k g) tt q) e

  -- an accepted part is sound
  pub check_shown : (levels run : ℕ) (is_root : Bool) (low high m : ℕ) (f : Findings) (r : ℕ × Findings)
      → node_check levels c n run is_root low high m f ≡ some r → Shown c is_root run low high m (suc levels) f r
  check_shown zero run is_root low high m f r e =
      look_shown (λ r l h k g. none) 0
      (λ run low high m f r e. absurd (none-ne-some r e)) is_root run low high m f r (sym (zero_step c n run is_root low high m f) ∙ e)
  check_shown (suc levels) run is_root low high m f r e =
      look_shown (λ r. node_check levels c n r false) (suc levels) (λ run low high m f r e. check_shown levels run false low high m f r e)
      is_root run low high m f r (sym (suc_step levels c n run is_root low high m f) ∙ e)
