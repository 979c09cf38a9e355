-- Every violation of a sound table with the nodes kept that document 01 asks for has its next change planned, and that change
-- does what Repaired says.
use mathlib.Core.Path.{◌≡◌, refl, ap, sym, ◌∙◌}
use mathlib.Core.List.{List, [], ◌∷◌, ◌++◌}
use mathlib.Core.Bool.{Bool, true, false}
use mathlib.Core.Option.{some}
use mathlib.Core.Logic.{inl, inr}
use Prim.Native.Nat.{ℕ, zero, suc, ◌+◌, ◌*◌, ◌≤◌, ◌<◌}
use native.Mathlib.Omega.{arith}
use lib.ListN.{length, get_or, replicate, length-append}
use Rattle.card.specs.Layout.{depth_limit, root_place, place, node_image}
use Rattle.card.specs.NodeWords.{OnCard}
use Rattle.card.specs.Stores.{Store, stores, NewNode, node_stores}
use Rattle.card.proofs.Stores.{length_node_image, numbered}
use Rattle.change_plan.specs.Change.{change_stores}
use Rattle.change_plan.specs.Planning.{take_numbers, without_all, last_of, with_all, prepared}
use Rattle.change_plan.proofs.NumberLaws.{giving_some}
use Rattle.change_layout.specs.Mending.{next_repair}
use Rattle.change_layout.proofs.Mending.{mend, repair_mends}
use Rattle.theory_change.proofs.KeptRoom.{room_kept}
use Rattle.theory_change.proofs.Line.{Line, Partition, Own, size, room_in_bits, zero_taken, own_node, given_fresh, given_own, given_on_card, partition_after}
use Rattle.theory_change.proofs.Exchange.{OneViolation}
use Rattle.theory_change.proofs.InnerRepairs.{inner_mended}
use Rattle.theory_change.proofs.LeafRepairs.{leaf_mended}
use Rattle.theory_change.proofs.Mending.{StandsAt, rewrite_at, Planned}
use Rattle.theory_change.proofs.Numbers.{Given, numbers_given}
use Rattle.theory_change.proofs.Parent.{violation_parent}
use Rattle.theory_change.proofs.Repaired.{Mendable, Repaired, settled, violated}
use Rattle.theory_change.proofs.Rewrite.{violations_in, own_in, AllFew, numbers, Rewrite}
use Rattle.theory_change.proofs.Rewritten.{Sound, weight_apart, numbered_total, After, rewritten, OnTheCard, on_the_card_lem}
use Rattle.walk.specs.Descent.{root_position, seek}
use Rattle.theory_walk.proofs.Seek.{violation_found}
use Rattle.theory_walk.proofs.Way.{position_of}
use Rattle.card_free.specs.NodeSet.{capacity}
use Rattle.laws.proofs.Cases.{order, impossible}
use Rattle.laws.specs.Totals.{indicator, total}
use Rattle.laws.proofs.Totals.{indicator_same, indicator_other}
use Rattle.theory_change.proofs.Reached.{repair_reached}
use Rattle.theory_shapes.proofs.Bare.{bare, bare_left, bare_right, bare_context, bare_plug}
use Rattle.theory_shapes.proofs.Next.{mend_at, tagged_in, repaired_by}
use Rattle.theory_tree.proofs.Pairs.{depth}
use Rattle.theory_tree.proofs.Path.{Violation, OnPath, depth_of, own_violation, reserve}
use Rattle.theory_tree.specs.Represent.{Represents, Holds}
use Rattle.theory_tree.proofs.Represent.{roots_left, roots_right, RepresentsContext, link_place, unplugged}
use Rattle.theory_tree.specs.Height.{Height}
use Rattle.theory_tree.proofs.Splice.{height_plug, length_roots_left}
use Rattle.theory_tree.specs.Tree.{Tree, root, roots, node_total, leaf, node}
use Rattle.theory_tree.proofs.Tree.{Left, Right, fill, Context, plug, context_total, total_plug, top, down}
use Rattle.theory_tree.proofs.Violations.{below, few_none}
use Rattle.theory_tree.specs.Violations.{table_violations}
use Rattle.walk.specs.declared.Position.{Position}
use Rattle.walk.specs.declared.Search.TheVariants.{Violation as SearchViolation}

pub change_stores_lem : (C : Context) (nodes : List NewNode) (number : ℕ) (out : List ℕ) → change_stores (rewrite_at C nodes number out) ≡ node_stores nodes ++ (link_place C, number) ∷ []
unfolding change_stores
change_stores_lem C nodes number out = refl

-- 24 stores for each node
length_stores : (p : ℕ) (ws : List ℕ) → length (stores p ws) ≡ length ws
length_stores p [] = refl
length_stores p (x ∷ ws) = ap suc (length_stores (suc p) ws)

pub length_node_stores : (nodes : List NewNode) → AllFew nodes → length (node_stores nodes) ≡ 24 * length (numbers nodes)
length_node_stores [] f = refl
length_node_stores (X ∷ Xs) f =
    simp length-append (omega (
      arith,
      length_stores (place X.number 0) (node_image X.kind X.keys X.values),
      length_node_image X.kind X.keys X.values f.0.0 f.0.1,
      length_node_stores Xs f.1,
    ))

-- the link stands on the card, and is the line's own
pub link_on_card : (c : List ℕ) (line : Line) (free : List Bool) (C : Context) (o : Tree) → Holds c (plug C o) → Partition line free (plug C o) → (link_place C < length c) × Own line (link_place C)
link_on_card c line free C o h x = at C (unplugged c C o h).0 (λ i. omega (arith, total_plug (indicator i) C o))
  where
    at : (D : Context) → RepresentsContext c D (root o) → ((i : ℕ) → context_total (indicator i) D ≤ node_total (indicator i) (plug C o)) → (link_place D < length c) × Own line (link_place D)
    at top r w = (omega (arith, r.1), inl refl)
    at (down D m g l r) k w =
        let n = length-append (roots_left l) (root o ∷ roots_right r) in
        let q = length_roots_left l in
        let here : 0 < node_total (indicator m) (plug C o) = omega (arith, w m, indicator_same m) in (
          omega (arith, k.0.on.fits, k.0.on.pos, k.4),
          inr (record { number = m; word = 12 + length (roots_left l); pos = k.0.on.pos; few = omega (arith, k.4); is = refl; own = own_node line free (plug C o) x m here }),
        )

-- the nodes cut out are nodes of the old part: with numbers given that are not i, nothing else can balance the count
other_numbers : (k i : ℕ) → (length (replicate k (suc i)) ≡ k) × (total (indicator i) (replicate k (suc i)) ≡ 0)
other_numbers zero i = (refl, refl)
other_numbers (suc k) i = let r = other_numbers k i in (ap suc r.0, omega (arith, r.1, indicator_other i (suc i) (omega arith)))

out_inside : {c : List ℕ} {n : ℕ} {pos : Position} {free : List Bool} {last : ℕ} {C : Context} {o : Tree} {spare : ℕ} {due : Tree}
    (p : Planned c n pos free last C o spare due) (i : ℕ) → total (indicator i) p.out ≤ node_total (indicator i) o
out_inside p i =
    let q = other_numbers p.given i in
    let e : total (indicator i) (numbers (p.nodes (replicate p.given (suc i)))) ≡ 0 = ap (total (indicator i)) (p.in_order (replicate p.given (suc i)) q.0) ∙ q.1 in
    omega (arith, (p.rewrites (replicate p.given (suc i))).same_numbers (indicator i))

stands : (C : Context) (p : ℕ) (l : Left) (r : Right) (s : Tree) → StandsAt (position_of (down C p false l r) s) C p l s
unfolding position_of
stands C p l r s = record { node_is = refl; parent_is = refl; index_is = refl; above_is = refl }

-- a planned change, given its numbers, on the card
module _ (c : List ℕ) (line : Line) (key : ℕ) (free : List Bool) (last : ℕ) (len : length c ≡ 8 + 24 * line.nodes) (small : line.nodes < capacity) (C : Context) (o : Tree)
    (spare deep : ℕ) (due : Tree) where
  pub planned_repaired : (pos : Position) → Holds c (plug C o) → Sound (plug C o) → Partition line free (plug C o) → table_violations (plug C o) ≡ 1 → violations_in C o ≡ 1
      → size (plug C o) + (3 + spare) ≤ line.limit
      → OnPath key C → depth_of C < deep → Planned c line.nodes pos free last C o spare due → repaired_by false (bare (plug C o))
      ≡ plug (bare_context C) due → next_repair c line.nodes key free last ≡ mend c line.nodes pos free last → Repaired c line key (plug C o) free last deep
  planned_repaired pos h s x v vi room path fall p reached is = go
      (numbers_given p.given free last (zero_taken line free (plug C o) x) (omega (arith, p.at_most_three, room_in_bits line free (plug C o) x small)))
    where
      go : ((ms : List ℕ) × (take_numbers p.given free last ≡ some ms) × (length ms ≡ p.given) × Given free ms) → Repaired c line key (plug C o) free last deep
      go (ms, e, el, g) =
          record {
            stores = node_stores nodes ++ (link_place C, root part) ∷ [];
            free_then = without_all ms free;
            last_then = last_of last ms;
            cut = p.out;
            planned = is ∙ p.planned ∙ giving_some p.given free last _ ms e
                ∙ ap (λ (z : List Store). prepared z (without_all ms free) (last_of last ms) p.out) (change_stores_lem C nodes (root part) p.out);
            short = simp length-append (omega (arith, length_node_stores nodes R.few, ap length in_order, p.at_most_three));
            pending = record {
              next = plug C part;
              weight = numbered nodes;
              writes = node_stores nodes;
              link = link_place C;
              value = root part;
              is_rest = refl;
              inside = card.within;
              fresh = weight_apart (numbered nodes) (plug C o) (λ i q. omega (arith, fresh i, numbered_total nodes i));
              on_card_lem = λ i q. on i (omega (arith, numbered_total nodes i));
              own = λ i q. given_own line free (plug C o) x ms g i (omega (arith, numbered_total nodes i, given_total i));
              link_inside = place_of.0;
              link_own = place_of.1;
              holds = card.after;
              sound = after.sound;
              same_pairs = after.same_pairs;
              exact = moved;
              level = ready.0;
              ready = ready.1;
              falls = ready.2;
              shaped = bare_plug C part ∙ ap (plug (bare_context C)) (p.shaped ms) ∙ sym reached;
            };
          }
        where
          nodes : List NewNode
          nodes = p.nodes ms

          part : Tree
          part = p.part ms

          R : Rewrite C o part nodes p.out
          R = p.rewrites ms

          in_order : numbers nodes ≡ ms
          in_order = p.in_order ms el

          given_total : (i : ℕ) → total (indicator i) (numbers nodes) ≡ total (indicator i) ms
          given_total i = ap (total (indicator i)) in_order

          fresh : (i : ℕ) → node_total (indicator i) (plug C o) + total (indicator i) (numbers nodes) ≤ 1
          fresh i = omega (arith, given_fresh line free (plug C o) x ms g i, given_total i)

          on : (i : ℕ) → 0 < total (indicator i) (numbers nodes) → OnCard c i
          on i q = given_on_card line free (plug C o) x ms g c len i (omega (arith, given_total i))

          after : After C o part
          after = rewritten C o part nodes p.out R s (v ∙ sym vi) fresh

          card : OnTheCard c C o part nodes
          card = on_the_card_lem c C o part nodes R.few R.represented h fresh after.sound.once on

          place_of : (link_place C < length c) × Own line (link_place C)
          place_of = link_on_card c line free C o h x

          moved : Partition line (with_all p.out (without_all ms free)) (plug C part)
          moved =
              partition_after line free (plug C o) x ms g (plug C part) p.out small
              (λ i. omega (arith, R.same_numbers (indicator i), total_plug (indicator i) C o, total_plug (indicator i) C part, given_total i))
              (λ i. omega (arith, out_inside p i, total_plug (indicator i) C o))

          ready : (d : ℕ) × Mendable key line.limit (plug C part) d × (d < deep)
          ready = at C after.violations_left path R.at_most_one fall (room_kept p ms line.limit el room)
            where
              at : (D : Context) → table_violations (plug D part) ≡ own_in D part → OnPath key D → own_in D part ≤ 1 → depth_of D < deep
                  → size (plug D part) + (3 + reserve D part) ≤ line.limit → (d : ℕ) × Mendable key line.limit (plug D part) d × (d < deep)
              at top w q k f r = (0, settled w (omega arith), omega arith)
              at (down D m b l r) w q k f room =
                  order 0 (own_violation part)
                  (λ a. let one_own : own_violation part ≡ 1 = omega arith in
                  (depth_of (down D m b l r), violated (record { context = down D m b l r; part = part; is_tree = refl; inside = tt; own = one_own; on_path = q }) (omega arith) room, f))
                  (λ a. (0, settled (omega arith) (omega arith), omega arith))

-- THE NEXT CHANGE of a table with a violation
pub mended : (c : List ℕ) (line : Line) (key : ℕ) (t : Tree) (free : List Bool) (last : ℕ) → length c ≡ 8 + 24 * line.nodes → line.nodes < capacity
    → Holds c t → Sound t → depth t ≤ depth_limit → Partition line free t
    → (v : Violation t key) → table_violations t ≡ 1 → size t + (3 + reserve v.context v.part) ≤ line.limit → Repaired c line key t free last (depth_of v.context)
mended c line key t free last len small h s deep x v single room =
    go v.context v.part v.is_tree v.inside v.own v.on_path room
    (violation_found c line.nodes key len depth_limit t h s.widths single deep v)
  where
    go : (D : Context) (q : Tree) → t ≡ plug D q → below D → own_violation q ≡ 1 → OnPath key D → size t + (3 + reserve D q) ≤ line.limit
        → seek c line.nodes key depth_limit (root_position (get_or c root_place 0)) ≡ SearchViolation (position_of D q)
        → Repaired c line key t free last (depth_of D)
    go top q e b own path room found = absurd b
    go (down C p true l r) q e b own path room found = let z = path.0 in impossible (cc)
    go (down C p false l r) q e b own path room found =
        rw e
        (at (rw e at h) (rw e at s) (rw e at x) (rw e at single) (rw e at room))
      where
        at : Holds c (plug C (node p false (fill l q r))) → Sound (plug C (node p false (fill l q r)))
            → Partition line free (plug C (node p false (fill l q r))) → table_violations (plug C (node p false (fill l q r))) ≡ 1
            → size (plug C (node p false (fill l q r))) + (3 + reserve (down C p false l r) q) ≤ line.limit
            → Repaired c line key (plug C (node p false (fill l q r))) free last (suc (depth_of C))
        at h₁ s₁ x₁ v₁ room₁ =
            let one_below = violation_parent C p l q r s₁.widths (omega arith) own in
            let rep = (unplugged c C (node p false (fill l q r)) h₁).1 in
            let high = height_plug s₁.level.0 C (node p false (fill l q r)) s₁.level.1 in
            planned_repaired c line key free last len small C (node p false (fill l q r)) (reserve (down C p false l r) q) (suc (depth_of C))
            (mend_at (tagged_in C) (bare_left l) (bare q) (bare_right r)) (position_of (down C p false l r) q) h₁ s₁ x₁ v₁
            (here C one_below) room₁ path.3 (omega arith) (plan q rep high one_below own) (repair_reached C p l q r own (omega arith))
            (repair_mends c line.nodes free last key (position_of (down C p false l r) q) found)
          where
            here : (D : Context) → OneViolation (fill l q r) → violations_in D (node p false (fill l q r)) ≡ 1
            here top o = o.single
            here (down D m b i j) o = omega (arith, o.single, few_none (length (roots (fill l q r))) o.least)

            plan : (q : Tree) → Represents c (node p false (fill l q r))
                → ((k : ℕ) × Height k (node p false (fill l q r)) × ((s' : Tree) → Height k s' → Height s₁.level.0 (plug C s')))
                → OneViolation (fill l q r) → own_violation q ≡ 1
                → Planned c line.nodes (position_of (down C p false l r) q) free last C (node p false (fill l q r)) (reserve (down C p false l r) q)
                (mend_at (tagged_in C) (bare_left l) (bare q) (bare_right r))
            plan (leaf m ks vs) rep high o own =
                leaf_mended c line.nodes (position_of (down C p false l r) (leaf m ks vs)) free last C p l r m ks vs len
                (stands C p l r (leaf m ks vs)) rep o own high.0 high.1
            plan (node m g f) rep high o own = inner_mended c line.nodes (position_of (down C p false l r) (node m g f)) free last C p l m g f r len (stands C p l r (node m g f)) rep
                high.0 high.1 o own
