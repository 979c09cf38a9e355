-- The check of a line's tree is that of the card from the line's root: it reads nothing of the header.
use mathlib.Core.Path.{◌≡◌, refl, ap, ap₂, ◌∙◌}
use mathlib.Core.Bool.{Bool, false, ◌||◌}
use mathlib.Core.List.{List, [], ◌∷◌}
use mathlib.Core.Option.{Option, none, some}
use Prim.Native.Nat.{ℕ, zero, suc}
use lib.ListN.{drop}
use lib.Dec.{eqb}
use Rattle.laws.specs.Cases.{pick, guard, bind}
use Rattle.card.specs.Layout.{node_at, kind_of, key_words, children, run_below}
use Rattle.card.specs.Lines.{seen}
use Rattle.card.proofs.LineLaws.{seen_node}
use Rattle.card_check.specs.Check.{Findings, Look, bad, leaf, inner, enter_node, ChildCheck, range_end, children_check, raised, on_look, node_check, tree_check}
use Rattle.card_check.specs.Counting.{keys_counted, children_counted, node_counted}

bind_same : {A B : Type 0} (o : Option A) (k l : A → Option B) → ((x : A) → k x ≡ l x) → bind o k ≡ bind o l
bind_same none k l h = refl
bind_same (some x) k l h = h x

children_same : (check other : ChildCheck) → ((low high m : ℕ) (f : Findings) → check low high m f ≡ other low high m f)
    → (first : Bool) (height low high : ℕ) (ks ms : List ℕ) (f : Findings)
    → children_check check first height low high ks ms f ≡ children_check other first height low high ks ms f
unfolding children_check
children_same check other h first height low high ks [] f = refl
children_same check other h first height low high ks (m ∷ ms) f =
    bind_same (range_end low high ks) _ _ (λ end.
    ap (λ (o : Option (ℕ × Findings)). bind o (λ r. guard (first || eqb r.0 height) (children_check check false r.0 end high (drop 1 ks) ms r.1))) (h low end m f)
    ∙ bind_same (other low end m f) _ _ (λ r. ap (guard (first || eqb r.0 height)) (children_same check other h false r.0 end high (drop 1 ks) ms r.1)))

look_same : (node : List ℕ) (low high : ℕ) (child other : ℕ → ChildCheck)
    → ((run low high m : ℕ) (f : Findings) → child run low high m f ≡ other run low high m f) → (run : ℕ) (look : Look)
    → on_look node low high child run look ≡ on_look node low high other run look
unfolding on_look
look_same node low high child other h run bad = refl
look_same node low high child other h run (leaf f) = refl
look_same node low high child other h run (inner c f) =
    ap (raised (eqb (kind_of node) 3)) (children_same (child (run_below c run)) (other (run_below c run)) (h (run_below c run)) _ _ low high _ _ f)

count_same : (count other : ℕ → List ℕ → List ℕ) → ((m : ℕ) (totals : List ℕ) → count m totals ≡ other m totals) → (ms totals : List ℕ)
    → children_counted count ms totals ≡ children_counted other ms totals
unfolding children_counted
count_same count other h [] totals = refl
count_same count other h (m ∷ ms) totals = count_same count other h ms (count m totals) ∙ ap (children_counted other ms) (h m totals)

module _ (line : ℕ) (card : List ℕ) where
  enter_seen : (n m low high run : ℕ) (is_root : Bool) (f : Findings) → enter_node (seen line card) n m low high run is_root f ≡ enter_node card n m low high run is_root f
  unfolding enter_node
  enter_seen n m low high run is_root f = rw (seen_node line card m)

  node_seen : (levels n run : ℕ) (is_root : Bool) (low high m : ℕ) (f : Findings)
      → node_check levels (seen line card) n run is_root low high m f ≡ node_check levels card n run is_root low high m f
  unfolding node_check
  node_seen zero n run is_root low high m f =
      ap₂ (λ (node : List ℕ) (look : Look). on_look node low high (λ r l h k g. none) run look) (seen_node line card m) (enter_seen n m low high run is_root f)
  node_seen (suc levels) n run is_root low high m f =
      look_same (node_at (seen line card) m) low high (λ r. node_check levels (seen line card) n r false) (λ r. node_check levels card n r false)
      (λ r l h k g. node_seen levels n r false l h k g) run (enter_node (seen line card) n m low high run is_root f)
      ∙ ap₂ (λ (node : List ℕ) (look : Look). on_look node low high (λ r. node_check levels card n r false) run look) (seen_node line card m) (enter_seen n m low high run is_root f)

  pub tree_seen : (n root : ℕ) (f : Findings) → tree_check (seen line card) n root f ≡ tree_check card n root f
  unfolding tree_check
  tree_seen n root f = node_seen _ n 0 _ _ _ root f

  -- and so are the totals that it counts
  pub counted_seen : (levels m : ℕ) (totals : List ℕ) → node_counted levels (seen line card) m totals ≡ node_counted levels card m totals
  unfolding node_counted
  counted_seen zero m totals = rw (seen_node line card m)
  counted_seen (suc levels) m totals =
      ap (λ (node : List ℕ). pick (eqb (kind_of node) 1) (keys_counted (key_words node) totals)
      (children_counted (node_counted levels (seen line card)) (children node) totals)) (seen_node line card m)
      ∙ ap (pick (eqb (kind_of (node_at card m)) 1) (keys_counted (key_words (node_at card m)) totals))
      (count_same (node_counted levels (seen line card)) (node_counted levels card) (counted_seen levels) (children (node_at card m)) totals)
