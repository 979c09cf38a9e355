-- What a rewrite makes of a sound table, and of the card at every store of its plan.
use mathlib.Core.Path.{◌≡◌, refl}
use mathlib.Core.List.{List, [], ◌∷◌}
use mathlib.Core.Bool.{Bool, true, false}
use Prim.Native.Nat.{ℕ, ◌+◌, ◌≤◌, ◌<◌}
use native.Mathlib.Omega.{arith}
use lib.ListN.{set, take}
use Rattle.card.specs.Layout.{lowest_key, key_limit}
use Rattle.card.specs.NodeWords.{OnCard}
use Rattle.card.proofs.Stores.{play, Within, keeps_play, numbered, AllFitCard, Distinct, AllHaveWords, within_node_stores, nodes_written}
use Rattle.card.specs.Stores.{NewNode, node_stores}
use Rattle.theory_change.proofs.Rewrite.{Shape, violations_in, own_in, SameHeight, AllFew, numbers, Rewrite}
use Rattle.laws.proofs.Cases.{order}
use Rattle.laws.specs.Totals.{indicator, total}
use Rattle.laws.proofs.Totals.{indicator_same, indicator_sym}
use Rattle.theory_tree.proofs.Cut.{cut}
use Rattle.theory_tree.specs.Pairs.{pairs}
use Rattle.theory_tree.proofs.Pairs.{InRange}
use Rattle.theory_tree.proofs.Replace.{before_link, changed}
use Rattle.theory_tree.specs.Represent.{Represents, Holds}
use Rattle.theory_tree.proofs.Represent.{link_place, frame, unplugged}
use Rattle.theory_tree.specs.Height.{Height}
use Rattle.theory_tree.proofs.Splice.{range_plug, plug_low, height_plug, pairs_plug}
use Rattle.theory_tree.specs.Tree.{Tree, Forest, root, node_total, node_totals, leaf, node, one, more}
use Rattle.theory_tree.proofs.Tree.{fill, Context, plug, total_plug, top, down}
use Rattle.theory_tree.specs.Violations.{few, Widths, AllWidths, RootOk, table_violations}
use Rattle.theory_tree.proofs.Violations.{widths_splice, violations_plug, fill_width}

-- what makes a tree sound, apart from the card: strict ranges, each node once, widths, equal depth, at most one violation
pub record Sound (t : Tree) : Type 0 where
  pub once : (i : ℕ) → node_total (indicator i) t ≤ 1
  pub range : InRange lowest_key key_limit t
  pub widths : RootOk t
  pub level : (h : ℕ) × Height h t
  pub few_violations : table_violations t ≤ 1

-- widths through a context
pub shape_plug : (C : Context) (o : Tree) → RootOk (plug C o) → Shape C o × ((s : Tree) → Shape C s → RootOk (plug C s))
shape_plug top o h = (h, λ s k. k)
shape_plug (down C m g l r) o h = at C (shape_plug C (node m g (fill l o r)) h)
  where
    inside : (D : Context) → Shape D (node m g (fill l o r)) → AllWidths (fill l o r)
    inside top k = root_widths g k
      where
        root_widths : (g : Bool) → RootOk (node m g (fill l o r)) → AllWidths (fill l o r)
        root_widths true k = absurd k
        root_widths false k = k.2
    inside (down D m' g' l' r') k = k.1

    again : (D : Context) → Shape D (node m g (fill l o r)) → (s : Tree) → AllWidths (fill l s r) → Shape D (node m g (fill l s r))
    again top k s w = root_again g k
      where
        root_again : (g : Bool) → RootOk (node m g (fill l o r)) → RootOk (node m g (fill l s r))
        root_again true k = k
        root_again false k = (rw (fill_width l o s r) k.0, rw (fill_width l o s r) k.1, w)
    again (down D m' g' l' r') k s w = (rw (fill_width l o s r) k.0, w)

    at : (D : Context) → Shape D (node m g (fill l o r)) × ((s : Tree) → Shape D s → RootOk (plug D s)) → Widths o × ((s : Tree) → Widths s → RootOk (plug D (node m g (fill l s r))))
    at D p =
        let v = widths_splice l (one o) r (inside D p.0) in
        (v.0, λ s k. p.1 (node m g (fill l s r)) (again D p.0 s (v.1 (one s) k)))

pub violations_in_plug : (C : Context) (o s : Tree) → table_violations (plug C s) + violations_in C o ≡ table_violations (plug C o) + violations_in C s
violations_in_plug top o s = omega arith
violations_in_plug (down C m g l r) o s = violations_plug (down C m g l r) o s tt

-- heights through a context, where those below the top stay
pub height_in_plug : (C : Context) (o s : Tree) (h : ℕ) → Height h (plug C o) → ((k : ℕ) → Height k o → (k' : ℕ) × Height k' s × SameHeight C k k') → (h' : ℕ) × Height h' (plug C s)
height_in_plug top o s h i f = let u = f h i in (u.0, u.1)
height_in_plug (down C m g l r) o s h i f =
    let u = height_plug h (down C m g l r) o i in
    let v = f u.0 u.1 in
    let j : Height u.0 s = rw v.2 at v.1 in
    (h, u.2 s j)

-- a weight that meets no number of the tree
mutual
  pub weight_apart : (w : ℕ → ℕ) (t : Tree) → ((i : ℕ) → 0 < w i → node_total (indicator i) t ≡ 0) → node_total w t ≡ 0
  weight_apart w (leaf m ks vs) h = order 0 (w m) (λ o. absurd (omega (arith, h m o, indicator_same m))) (λ o. omega arith)
  weight_apart w (node m g f) h =
      let z : node_totals w f ≡ 0 = weights_apart w f (λ i o. omega (arith, h i o)) in
      order 0 (w m) (λ o. absurd (omega (arith, h m o, indicator_same m))) (λ o. omega arith)

  pub weights_apart : (w : ℕ → ℕ) (f : Forest) → ((i : ℕ) → 0 < w i → node_totals (indicator i) f ≡ 0) → node_totals w f ≡ 0
  weights_apart w (one t) h = weight_apart w t h
  weights_apart w (more t k f) h = omega (arith, weight_apart w t (λ i o. omega (arith, h i o)), weights_apart w f (λ i o. omega (arith, h i o)))

-- the numbers of new nodes
pub numbered_total : (nodes : List NewNode) (i : ℕ) → numbered nodes i ≡ total (indicator i) (numbers nodes)
numbered_total [] i = refl
numbered_total (X ∷ Xs) i = omega (arith, numbered_total Xs i, indicator_sym X.number i)

distinct_of : (nodes : List NewNode) → ((i : ℕ) → total (indicator i) (numbers nodes) ≤ 1) → Distinct nodes
distinct_of [] h = tt
distinct_of (X ∷ Xs) h = (omega (arith, numbered_total Xs X.number, h X.number, indicator_same X.number), distinct_of Xs (λ i. omega (arith, h i)))

fit_of : (c : List ℕ) (nodes : List NewNode) → ((i : ℕ) → 0 < total (indicator i) (numbers nodes) → OnCard c i) → AllFew nodes → AllFitCard c nodes
fit_of c [] h f = tt
fit_of c (X ∷ Xs) h f =
    (record { on = h X.number (omega (arith, indicator_same X.number)); few_keys = f.0.0; few_values = f.0.1 }, fit_of c Xs (λ i o. h i (omega arith)) f.1)

-- The tree after the rewrite is sound, holds the same pairs, and has no violation but its part's own.
pub record After (C : Context) (o s : Tree) : Type 0 where
  pub sound : Sound (plug C s)
  pub same_pairs : (w : ℕ × ℕ → ℕ) → total w (pairs (plug C s)) ≡ total w (pairs (plug C o))
  pub violations_left : table_violations (plug C s) ≡ own_in C s

pub rewritten : (C : Context) (o s : Tree) (nodes : List NewNode) (cut : List ℕ) → Rewrite C o s nodes cut → Sound (plug C o) → table_violations (plug C o) ≡ violations_in C o
    → ((i : ℕ) → node_total (indicator i) (plug C o) + total (indicator i) (numbers nodes) ≤ 1) → After C o s
rewritten C o s nodes cut r h v fresh =
    let left : table_violations (plug C s) ≡ own_in C s = omega (arith, violations_in_plug C o s, v, r.settled) in
    let u = range_plug lowest_key key_limit C o h.range in
    let low = plug_low lowest_key key_limit C o h.range in
    record {
      sound = record {
        once = λ i. omega (arith, fresh i, r.same_numbers (indicator i), total_plug (indicator i) C o, total_plug (indicator i) C s);
        range = u.3 s (r.range u.0 u.1 (omega arith) u.2);
        widths = (shape_plug C o h.widths).1 s r.shape;
        level = height_in_plug C o s h.level.0 h.level.1 r.height;
        few_violations = omega (arith, left, r.at_most_one);
      };
      same_pairs = λ w. omega (arith, pairs_plug w C o s, r.same_pairs w);
      violations_left = left;
    }

-- On the card: every store before the link leaves the old tree, and the link puts the new one there.
pub record OnTheCard (c : List ℕ) (C : Context) (o s : Tree) (nodes : List NewNode) : Type 0 where
  pub before : (k : ℕ) → Holds (play (take k (node_stores nodes)) c) (plug C o)
  pub after : Holds (set (play (node_stores nodes) c) (link_place C) (root s)) (plug C s)
  pub within : Within (numbered nodes) (node_stores nodes)

pub on_the_card_lem : (c : List ℕ) (C : Context) (o s : Tree) (nodes : List NewNode) → AllFew nodes → ((d : List ℕ) → Represents d o → AllHaveWords d nodes → Represents d s) → Holds c (plug C o)
    → ((i : ℕ) → node_total (indicator i) (plug C o) + total (indicator i) (numbers nodes) ≤ 1) → ((i : ℕ) → node_total (indicator i) (plug C s) ≤ 1)
    → ((i : ℕ) → 0 < total (indicator i) (numbers nodes) → OnCard c i) → OnTheCard c C o s nodes
on_the_card_lem c C o s nodes few represented h fresh once on =
    let fit = fit_of c nodes on few in
    let within = within_node_stores c nodes fit in
    let zero_there : node_total (numbered nodes) (plug C o) ≡ 0 = weight_apart (numbered nodes) (plug C o) (λ i p. omega (arith, fresh i, numbered_total nodes i)) in
    let have = nodes_written c nodes fit (distinct_of nodes (λ i. omega (arith, fresh i))) in
    let now = play (node_stores nodes) c in
    let old : Represents (play (node_stores nodes) c) o =
    frame c (play (node_stores nodes) c) (numbered nodes) (keeps_play within c) o (omega (arith, total_plug (numbered nodes) C o)) (unplugged c C o h).1 in
    record {
      before = λ k. before_link c C o s (numbered nodes) (node_stores nodes) within zero_there k h;
      after = changed c C o s (numbered nodes) (node_stores nodes) within zero_there (λ i. omega (arith, once i, total_plug (indicator i) C s)) (represented (play (node_stores nodes) c) old have) h;
      within = within;
    }
