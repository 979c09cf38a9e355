-- A sound part passes: where the card holds a sound tree whose numbers are free, the check of its root gives back the tree's
-- height and findings.
use mathlib.Core.Path.{◌≡◌, refl, ap, ap₂, sym, ◌∙◌}
use mathlib.Core.List.{List, [], ◌∷◌}
use mathlib.Core.Bool.{Bool, true, false, ◌||◌}
use mathlib.Core.Option.{none, some}
use Prim.Native.Nat.{ℕ, zero, suc, ◌+◌, ◌-◌, ◌*◌, ◌≤◌, ◌<◌}
use native.Mathlib.Omega.{arith}
use lib.ListN.{length, get_or}
use lib.Dec.{ltb, eqb}
use borrow.Author.Tests.{lt-ltb, eq-eqb}
use Rattle.card.specs.Layout.{node_at, kind_of, key_words, value_words, children, routing_keys, slot_pairs, run_below}
use Rattle.card.proofs.NodeLaws.{node_word}
use Rattle.card.specs.NodeWords.{NodeWords}
use Rattle.laws.proofs.Bits.{bit_positive}
use Rattle.laws.specs.Cases.{pick}
use Rattle.laws.proofs.Cases.{and_intro, impossible}
use Rattle.laws.specs.Lists.{zero_after}
use Rattle.laws.proofs.Lists.{zero_after_pad}
use Rattle.laws.specs.Totals.{indicator}
use Rattle.laws.proofs.Totals.{indicator_same}
use Rattle.card_check.specs.Check.{Findings, unused_zero, enter_node, ChildCheck, children_check, raised, on_look, node_check, inner, leaf as leaf_look, range_end}
use Rattle.theory_check.proofs.Entering.{Present, pairs_in, few_pairs, width, Enters, enter_accepts, as_leaf, as_inner}
use Rattle.theory_check.proofs.Found.{one_of_not, taken, note, violates, at_root, found, found_below, is_free, WidthsAt, own_at}
use Rattle.theory_check.proofs.Leaves.{leaf_passes}
use Rattle.theory_check.proofs.Parts.{node_part, SoundPart, SoundParts, one_part, part_first, node_widths, part_rest}
use Rattle.theory_check.proofs.Shown.{zero_step, suc_step, kind_tagged}
use Rattle.theory_tree.proofs.Pairs.{child, routing_roots}
use Rattle.theory_tree.proofs.Reading.{read_kind, read_key_words, read_value_words, leaf_keys, leaf_values, node_children, node_routing}
use Rattle.theory_tree.specs.Represent.{kind}
use Rattle.theory_tree.specs.Tree.{Tree, Forest, root, roots, routing, leaf, node, one, more}

-- ---- the steps of the check, each over what the step before it gave

one_step : (check : ChildCheck) (first : Bool) (height low high m : ℕ) (f : Findings) (r : ℕ × Findings) → check low high m f ≡ some r
    → (first || eqb r.0 height) ≡ true → children_check check first height low high [] (m ∷ []) f ≡ some r
unfolding children_check range_end
one_step check first height low high m f r e h = rw (e, h)

more_step : (check : ChildCheck) (first : Bool) (height low high k m : ℕ) (ks ms : List ℕ) (f : Findings) (r q : ℕ × Findings) → low < k
    → k < high → check low k m f ≡ some r → (first || eqb r.0 height) ≡ true
    → children_check check false r.0 k high ks ms r.1 ≡ some q → children_check check first height low high (k ∷ ks) (m ∷ ms) f ≡ some q
unfolding children_check range_end
more_step check first height low high k m ks ms f r q a b e h t = rw (lt-ltb low k a, lt-ltb k high b, e, h) t

inner_step : (words : List ℕ) (low high : ℕ) (child : ℕ → ChildCheck) (run m : ℕ) (g : Bool) (ks ms : List ℕ) (f : Findings) (b : ℕ)
    (after : Findings) → kind_of words ≡ kind g → routing_keys words ≡ ks → children words ≡ ms
    → children_check (child (run_below (length ms) run)) true 0 low high ks ms (note (g || ltb (length ms) 2) low (pick g run 0) (taken m f)) ≡ some (b, after)
    → on_look words low high child run (inner (width words) (note (g || ltb (width words) 2) low (pick g run 0) (taken m f))) ≡ some (pick g b (suc b), after)
unfolding on_look raised
inner_step words low high child run m g ks ms f b after k er em e = rw (kind_tagged words g k, er, em, e)

module _ (c : List ℕ) (n : ℕ) (len : length c ≡ 8 + 24 * n) where
  present : (m k : ℕ) (a b : List ℕ) (f : Findings) → NodeWords c m k a b → indicator m m ≤ is_free f m → Present c n m f
  present m k a b f w h =
      record { pos = w.on.pos; within = omega (arith, w.on.fits); free = bit_positive (get_or f.free m false) (omega (arith, indicator_same m)); last = node_word c m 23 (omega arith) ∙ w.last }

  leaf_enters : (is_root : Bool) (run low high h bound m : ℕ) (ks vs : List ℕ) (f : Findings) → SoundPart c is_root low high h bound f (leaf m ks vs)
      → Enters c n m low high run is_root f (leaf_look (note (few_pairs is_root (node_at c m)) low 0 (taken m f))) × (few_pairs is_root (node_at c m) ≡ violates is_root (leaf m ks vs))
  leaf_enters is_root run low high h bound m ks vs f p =
      let r = p.represents in
      let q : pairs_in (node_at c m) ≡ length (slot_pairs ks vs) = ap₂ (λ (a b : List ℕ). length (slot_pairs a b)) (leaf_keys c m ks vs r) (leaf_values c m ks vs r) in
      let e : few_pairs is_root (node_at c m) ≡ violates is_root (leaf m ks vs) = ap (λ (x : ℕ). pick is_root false (ltb x 2)) q in (
        as_leaf (present m 1 ks vs f r.0 (p.free m))
            (record {
              kind_is = read_kind c m 1 ks vs r.0;
              sound = rw (leaf_keys c m ks vs r) (leaf_passes low high ks vs (r.1 ∙ sym r.2) p.range);
              filled = λ z. omega (arith, filled is_root z p.widths);
              first = λ z. one_of_not f.violated (violates is_root (leaf m ks vs)) (omega (arith, own_at is_root (leaf m ks vs) p.widths, p.once_violated)) (sym e ∙ z);
            }),
        e,
      )
    where
      filled : (is_root : Bool) → is_root ≡ false → WidthsAt is_root (leaf m ks vs) → 1 ≤ length (slot_pairs ks vs)
      filled true z w = impossible (cc)
      filled false z w = w

  node_enters : (is_root : Bool) (run low high h bound m : ℕ) (g : Bool) (k : Forest) (f : Findings) → SoundPart c is_root low high h bound f (node m g k)
      → Enters c n m low high run is_root f (inner (width (node_at c m)) (note (g || ltb (width (node_at c m)) 2) low (pick g run 0) (taken m f)))
  unfolding unused_zero
  node_enters is_root run low high h bound m g k f p =
      let r = p.represents in
      let words : List ℕ = node_at c m in
      let q : width words ≡ length (roots k) = ap length (node_children c m g k r) in
      let w = node_widths is_root m g k p.widths in
      let e : (g || ltb (width words) 2) ≡ (g || ltb (length (roots k)) 2) = ap (λ (x : ℕ). g || ltb x 2) q in
      let a : zero_after (length (roots k) - 1) (key_words words) ≡ true =
      rw (read_key_words c m (kind g) (routing k) (roots k) r.0 (omega (arith, routing_roots k, r.2)))
      (zero_after_pad (routing k) (length (roots k) - 1) (11 - length (routing k)) (omega (arith, routing_roots k))) in
      let b : zero_after (length (roots k)) (value_words words) ≡ true = rw (read_value_words c m (kind g) (routing k) (roots k) r.0 r.2)
      (zero_after_pad (roots k) (length (roots k)) (11 - length (roots k)) refl) in
      as_inner g (present m (kind g) (routing k) (roots k) f r.0 (omega (arith, p.free m)))
      (record {
        kind_is = read_kind c m (kind g) (routing k) (roots k) r.0;
        filled = omega (arith, w.1);
        unused = rw q (and_intro a b);
        sound = rw q w.0;
        first = λ z. one_of_not f.violated (violates is_root (node m g k)) (omega (arith, own_at is_root (node m g k) p.widths, p.once_violated)) (sym e ∙ z);
      })

  children_pass : (bound run : ℕ) (check : ChildCheck) → ((low high h : ℕ) (f : Findings) (t : Tree)
      → SoundPart c false low high h bound f t → check low high (root t) f ≡ some (h, found false run low t f))
      → (first : Bool) (height low high h : ℕ) (f : Findings) (k : Forest) → SoundParts c low high h bound f k → (first || eqb h height) ≡ true
      → children_check check first height low high (routing k) (roots k) f ≡ some (h, found_below run low k f)
  children_pass bound run check ih first height low high h f (one t) p e = one_step check first height low high (root t) f (h, found false run low t f) (ih low high h f t (one_part p)) e
  children_pass bound run check ih first height low high h f (more t x k) p e =
      more_step check first height low high x (root t) (routing k) (roots k) f (h, found false run low t f)
      (h, found_below run x k (found false run low t f)) p.ranges.1 p.ranges.2 (ih low x h f t (part_first p)) e
      (children_pass bound run check ih false h x high h (found false run low t f) k (part_rest run p) (eq-eqb h h refl))

  look_passes : (child : ℕ → ChildCheck) (bound : ℕ) → ((run low high h : ℕ) (f : Findings) (t : Tree)
      → SoundPart c false low high h bound f t → child run low high (root t) f ≡ some (h, found false run low t f))
      → (is_root : Bool) (run low high h : ℕ) (f : Findings) (t : Tree) → SoundPart c is_root low high h (suc bound) f t
      → on_look (node_at c (root t)) low high child run (enter_node c n (root t) low high run is_root f) ≡ some (h, found is_root run low t f)
  unfolding on_look
  look_passes child bound ih is_root run low high h f (leaf m ks vs) p =
      let e = leaf_enters is_root run low high h (suc bound) m ks vs f p in
      rw (enter_accepts c n m low high run is_root f (leaf_look (note (few_pairs is_root (node_at c m)) low 0 (taken m f))) e.0)
      (ap₂ (λ (x : ℕ) (b : Bool). some (x, note b low 0 (taken m f))) (sym p.height) e.1)
  look_passes child bound ih is_root run low high h f (node m g k) p =
      let q = node_part is_root run m g p in
      inside q.0 q.1 (enter_accepts c n m low high run is_root f (inner (width (node_at c m))
      (note (g || ltb (width (node_at c m)) 2) low (pick g run 0) (taken m f))) (node_enters is_root run low high h (suc bound) m g k f p))
      (children_pass bound (run_below (length (roots k)) run) (child (run_below (length (roots k)) run))
      (ih (run_below (length (roots k)) run)) true 0 low high q.0 (at_root is_root run low (node m g k) f) k q.2 refl)
    where
      inside : (b : ℕ) → h ≡ pick g b (suc b) → enter_node c n m low high run is_root f ≡ inner (width (node_at c m)) (note (g || ltb (width (node_at c m)) 2) low (pick g run 0) (taken m f))
          → children_check (child (run_below (length (roots k)) run)) true 0 low high (routing k) (roots k) (at_root is_root run low (node m g k) f) ≡ some (b, found is_root run low (node m g k) f)
          → on_look (node_at c m) low high child run (enter_node c n m low high run is_root f) ≡ some (h, found is_root run low (node m g k) f)
      inside b e l s =
          ap (on_look (node_at c m) low high child run) l
          ∙ inner_step (node_at c m) low high child run m g (routing k) (roots k) f b (found is_root run low (node m g k) f)
          (read_kind c m (kind g) (routing k) (roots k) p.represents.0) (node_routing c m g k p.represents)
          (node_children c m g k p.represents) s
          ∙ ap (λ (x : ℕ). some (x, found is_root run low (node m g k) f)) (sym e)

  -- a sound part is accepted
  pub check_passes : (levels run : ℕ) (is_root : Bool) (low high h : ℕ) (f : Findings) (t : Tree) → SoundPart c is_root low high h (suc levels) f t
      → node_check levels c n run is_root low high (root t) f ≡ some (h, found is_root run low t f)
  check_passes zero run is_root low high h f t p =
      zero_step c n run is_root low high (root t) f
      ∙ look_passes (λ r l h k g. none) 0 (λ run low high h f t p. absurd (omega (arith, p.deep))) is_root run low high h f t p
  check_passes (suc levels) run is_root low high h f t p =
      suc_step levels c n run is_root low high (root t) f ∙ look_passes (λ r. node_check levels c n r false) (suc levels)
      (λ run low high h f t p. check_passes levels run false low high h f t p) is_root run low high h f t p
