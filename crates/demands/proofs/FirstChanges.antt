-- The first change of an insert or a delete on a balanced table: its stores, the tree they lead to, and what the book enters.
use mathlib.Core.Path.{◌≡◌, refl, ap, sym, ◌∙◌}
use mathlib.Core.List.{List, [], ◌∷◌, ◌++◌}
use mathlib.Core.Bool.{Bool, true, false}
use mathlib.Core.Logic.{inr, by_cases}
use Prim.Native.Nat.{ℕ, ◌+◌, ◌*◌, ◌≤◌, ◌<◌}
use native.Mathlib.Omega.{arith}
use native.Mathlib.Decide.{ℕ_discrete}
use lib.ListN.{length, set, get_or, length-append, length-set}
use lib.Seq.{get_or-set_same}
use Rattle.card.specs.Layout.{lowest_key, key_limit, place, slot_pairs}
use Rattle.card.specs.NodeWords.{OnCard}
use Rattle.card.specs.Stores.{Store, NewNode, node_stores}
use Rattle.card.proofs.Stores.{numbered}
use Rattle.change_plan.specs.Planning.{without_all, first, second, third, with_all}
use Rattle.theory_change.proofs.Line.{Line, Partition, Own, size, own_node, given_fresh, given_own, given_on_card, partition_after}
use Rattle.walk.specs.Descent.{first_equal}
use Rattle.demands.proofs.Shapes.{first_shape}
use Rattle.theory_shapes.proofs.Bare.{bare, bare_context, bare_plug}
use Rattle.theory_shapes.proofs.Next.{tagged_in, put_in, put_at, take_out, take_at}
use Rattle.theory_shapes.proofs.Ways.{Reaches, bare_reaches, bare_tagged_in, changed_leaf}
use Rattle.theory_change.proofs.LeafRows.{two_leaves}
use Rattle.theory_change.proofs.LeafSplit.{Growth, with_pair, split_nodes, leaf_split}
use Rattle.theory_change.proofs.Mended.{length_node_stores, link_on_card}
use Rattle.theory_change.proofs.Mending.{three_of}
use Rattle.theory_change.proofs.Numbers.{Given}
use Rattle.theory_change.proofs.Plays.{Storable, writes_play, Changing, last_store, store_then}
use Rattle.theory_change.proofs.Repaired.{Mendable, settled}
use Rattle.theory_change.proofs.Reshape.{reshaped, growth_reshape}
use Rattle.theory_change.proofs.Rewrite.{own_in, numbers}
use Rattle.theory_change.proofs.Rewritten.{Sound, weight_apart, numbered_total, OnTheCard, on_the_card_lem}
use Rattle.theory_walk.proofs.Routing.{Leads}
use Rattle.card_free.specs.NodeSet.{capacity}
use Rattle.laws.specs.Totals.{indicator, total}
use Rattle.laws.proofs.Totals.{indicator_same, indicator_other, indicator_le, total_length}
use Rattle.demands.proofs.LeafAfter.{LeafAfter, ready_after, on_path, two_pairs, leaf_after}
use Rattle.demands.specs.Book.{Update, put, remove}
use Rattle.demands.proofs.BookLaws.{Changes, changes_put, changes_remove}
use Rattle.call_change.specs.Updates.{split_need}
use Rattle.theory_tree.proofs.InPlace.{value_stored, key_stored, slot_pairs_out, slot_pairs_in, length_total}
use Rattle.theory_tree.proofs.Lookup.{key_once}
use Rattle.theory_tree.specs.Pairs.{pairs, has_key, outside, LeafRange}
use Rattle.theory_tree.proofs.Pairs.{slot_pairs_value}
use Rattle.theory_tree.proofs.Path.{depth_of, full_run, reserve}
use Rattle.theory_tree.proofs.Represent.{link_place, unplugged}
use Rattle.theory_tree.specs.Represent.{Holds}
use Rattle.theory_tree.proofs.Sorted.{outside_none}
use Rattle.theory_tree.proofs.Splice.{pairs_plug}
use Rattle.theory_tree.specs.Tree.{Tree, node_total, leaf, node}
use Rattle.theory_tree.proofs.Tree.{Context, plug, total_plug, top, down}
use Rattle.theory_tree.proofs.Violations.{below}
use Rattle.theory_tree.specs.Violations.{table_violations}
use Rattle.std.specs.Prelude.{Some, None}

pub leads_reach : (key : ℕ) (C : Context) → Leads key C → Reaches key C
leads_reach key top p = tt
leads_reach key (down C m g l r) p = (p.0, p.1, leads_reach key C p.2)

-- a part's pairs are among those of the whole
pub pairs_part : (w : ℕ × ℕ → ℕ) (C : Context) (s : Tree) → total w (pairs s) ≤ total w (pairs (plug C s))
pairs_part w C s = omega (arith, pairs_plug w C s (leaf 0 [] []))

module _ (c : List ℕ) (line : Line) (key : ℕ) (free : List Bool) (C : Context) (m : ℕ) (ks vs : List ℕ) (holds : Holds c (plug C (leaf m ks vs)))
    (sound : Sound (plug C (leaf m ks vs))) (balanced : table_violations (plug C (leaf m ks vs)) ≡ 0)
    (exact : Partition line free (plug C (leaf m ks vs))) (room : size (plug C (leaf m ks vs)) + 3 ≤ line.limit) (leads : Leads key C) (low : lowest_key ≤ key) (high : key < key_limit)
  where
    rows : (length ks ≡ 11) × (length vs ≡ 11)
    rows = let r = (unplugged c C (leaf m ks vs) holds).1 in (r.1, r.2)

    on_card_lem : OnCard c m
    on_card_lem = (unplugged c C (leaf m ks vs) holds).1.0.on

    own : (x : ℕ) → x < 24 → Own line (place m x)
    own x h =
        let here : 0 < node_total (indicator m) (plug C (leaf m ks vs)) = omega (arith, total_plug (indicator m) C (leaf m ks vs), indicator_same m) in
        inr (record { number = m; word = x; pos = on_card_lem.pos; few = h; is = refl; own = own_node line free (plug C (leaf m ks vs)) exact m here })

    storable : (x : ℕ) → x < 24 → Storable line c (place m x)
    storable x h = record { inside = omega (arith, on_card_lem.fits, on_card_lem.pos); own = own x h }

    after : (ks' vs' : List ℕ) → ((a b : ℕ) → a ≤ key → key < b → LeafRange a b (slot_pairs ks vs) → LeafRange a b (slot_pairs ks' vs'))
        → (below C → 1 ≤ length (slot_pairs ks' vs')) → LeafAfter line key free C (leaf m ks' vs')
    after = leaf_after line key free C m ks vs sound balanced exact room leads low high

    two : below C → 2 ≤ length (slot_pairs ks vs)
    two = two_pairs line key free C m ks vs sound balanced exact room leads low high

    -- "With an empty slot: value first, then key, in the lowest empty slot."
    module _ (i v : ℕ) (small : i < 11) (free_slot : get_or ks i 0 ≡ 0) (absent : total (has_key key) (pairs (plug C (leaf m ks vs))) ≡ 0) where
      value_same : (w : ℕ × ℕ → ℕ) → total w (slot_pairs ks (set vs i v)) ≡ total w (slot_pairs ks vs)
      value_same w = slot_pairs_value w ks vs i v free_slot

      key_more : (w : ℕ × ℕ → ℕ) → total w (slot_pairs (set ks i key) (set vs i v)) ≡ w (key, v) + total w (slot_pairs ks vs)
      key_more w =
          let e = slot_pairs_in w ks (set vs i v) i key free_slot (omega (arith, rows)) (rows.0 ∙ sym (length-set vs i v ∙ rows.1)) (omega arith) in
          let g : w (key, get_or (set vs i v) i 0) ≡ w (key, v) = ap (λ (x : ℕ). w (key, x)) (get_or-set_same vs i v 0 (omega (arith, rows))) in
          omega (arith, value_same w)

      absent_here : total (has_key key) (slot_pairs ks vs) ≡ 0
      absent_here = omega (arith, pairs_part (has_key key) C (leaf m ks vs))

      between : LeafAfter line key free C (leaf m ks (set vs i v))
      between =
          after ks (set vs i v) (λ a b p q r. record { inside = value_same (outside a b) ∙ r.inside; once = λ k. omega (arith, value_same (has_key k), r.once k) })
          (λ b. omega (arith, two b, length_total (slot_pairs ks (set vs i v)), length_total (slot_pairs ks vs), value_same (λ p. 1)))

      done_leaf : LeafAfter line key free C (leaf m (set ks i key) (set vs i v))
      done_leaf =
          after (set ks i key) (set vs i v)
          (λ a b p q r. record {
            inside = omega (arith, key_more (outside a b), outside_none a b (key, v) p q, r.inside);
            once = λ k. by_cases (ℕ_discrete k key) (λ e. rw e (omega (arith, key_more (has_key key), indicator_le key key, absent_here)))
                (λ d. omega (arith, key_more (has_key k), indicator_other k key d, r.once k));
          })
          (λ b. omega (arith, length_total (slot_pairs (set ks i key) (set vs i v)), length_total (slot_pairs ks vs), key_more (λ p. 1)))

      pub slot_changing : Changing c line key (plug C (leaf m ks vs)) ((place m (12 + i), v) ∷ (place m (1 + i), key) ∷ []) free []
      unfolding with_all
      slot_changing =
          let b = between in
          let d = done_leaf in
          let here : place m (1 + i) < length (set c (place m (12 + i)) v) = rw (length-set c (place m (12 + i)) v) (storable (1 + i) (omega arith)).inside in
          let second_place : Storable line (set c (place m (12 + i)) v) (place m (1 + i)) = record { inside = here; own = own (1 + i) (omega arith) } in
          record {
            next = plug C (leaf m (set ks i key) (set vs i v));
            plays =
                store_then {t = plug C (leaf m ks vs)} (plug C (leaf m ks (set vs i v))) (storable (12 + i) (omega arith)) (value_stored c C m i v ks vs small sound.once holds) b.sound
                (record { key = key; deep = b.level; ready = b.ready })
                (λ w. omega (arith, pairs_plug w C (leaf m ks vs) (leaf m ks (set vs i v)), value_same w))
                (λ j. omega (arith, total_plug (indicator j) C (leaf m ks vs), total_plug (indicator j) C (leaf m ks (set vs i v))))
                (last_store second_place
                (key_stored (set c (place m (12 + i)) v) C m i key ks (set vs i v) small b.sound.once (value_stored c C m i v ks vs small sound.once holds)));
            sound = d.sound;
            exact = d.exact;
            level = d.level;
            ready = d.ready;
          }

      pub slot_level : slot_changing.level ≤ depth_of C
      unfolding slot_changing with_all
      slot_level = done_leaf.shallow

      pub slot_enters : Changes (put key v) (pairs (plug C (leaf m ks vs))) (pairs slot_changing.next)
      unfolding slot_changing with_all
      slot_enters =
          changes_put key v (pairs (plug C (leaf m ks vs))) (pairs (plug C (leaf m (set ks i key) (set vs i v)))) high absent
          (λ w. omega (arith, pairs_plug w C (leaf m ks vs) (leaf m (set ks i key) (set vs i v)), key_more w))

      pub slot_shaped : first_equal ks 0 0 ≡ Some i → bare slot_changing.next ≡ first_shape (put key v) (bare (plug C (leaf m ks vs)))
      unfolding slot_changing with_all first_shape put_in put_at
      slot_shaped e =
          let c = changed_leaf (put_in key v) key (bare_context C) 0 ks vs (bare_reaches key C (leads_reach key C leads)) in
          rw (bare_plug C (leaf m (set ks i key) (set vs i v)), bare_plug C (leaf m ks vs), c, e)

    -- "Delete: key word to 0"
    module _ (i : ℕ) (small : i < 11) (held : get_or ks i 0 ≡ key) where
      key_less : (w : ℕ × ℕ → ℕ) → total w (slot_pairs ks vs) ≡ w (key, get_or vs i 0) + total w (slot_pairs (set ks i 0) vs)
      key_less w = slot_pairs_out w ks vs i key (omega (arith, rows)) (rows.0 ∙ sym rows.1) held (omega arith)

      gone_leaf : LeafAfter line key free C (leaf m (set ks i 0) vs)
      gone_leaf =
          after (set ks i 0) vs
          (λ a b p q r. record { inside = omega (arith, key_less (outside a b), r.inside); once = λ k. omega (arith, key_less (has_key k), r.once k) })
          (λ b. omega (arith, two b, length_total (slot_pairs (set ks i 0) vs), length_total (slot_pairs ks vs), key_less (λ p. 1)))

      pub delete_changing : Changing c line key (plug C (leaf m ks vs)) ((place m (1 + i), 0) ∷ []) free []
      unfolding with_all
      delete_changing =
          let d = gone_leaf in
          record {
            next = plug C (leaf m (set ks i 0) vs);
            plays = last_store (storable (1 + i) (omega arith)) (key_stored c C m i 0 ks vs small sound.once holds);
            sound = d.sound;
            exact = d.exact;
            level = d.level;
            ready = d.ready;
          }

      pub delete_level : delete_changing.level ≤ depth_of C
      unfolding delete_changing with_all
      delete_level = gone_leaf.shallow

      pub delete_enters : Changes (remove key) (pairs (plug C (leaf m ks vs))) (pairs delete_changing.next)
      unfolding delete_changing with_all
      delete_enters =
          changes_remove key (get_or vs i 0) (pairs (plug C (leaf m ks vs))) (pairs (plug C (leaf m (set ks i 0) vs))) high (key_once lowest_key key_limit key (plug C (leaf m ks vs)) sound.range)
          (λ w. omega (arith, pairs_plug w C (leaf m ks vs) (leaf m (set ks i 0) vs), key_less w))

      pub delete_shaped : first_equal ks key 0 ≡ Some i → bare delete_changing.next ≡ first_shape (remove key) (bare (plug C (leaf m ks vs)))
      unfolding delete_changing with_all first_shape take_out take_at
      delete_shaped e =
          let c = changed_leaf (take_out key) key (bare_context C) 0 ks vs (bare_reaches key C (leads_reach key C leads)) in
          rw (bare_plug C (leaf m (set ks i 0) vs), bare_plug C (leaf m ks vs), c, e)

    -- "Leaf full: the 12 pairs go 6 and 6 into two leaves under a tagged node (internal if it is the root)"
    module _ (v : ℕ) (ms : List ℕ) (three : length ms ≡ 3) (given : Given free ms) (len : length c ≡ 8 + 24 * line.nodes) (fits : line.nodes < capacity) (full_leaf : length (slot_pairs ks vs) ≡ 11)
        (absent : total (has_key key) (pairs (plug C (leaf m ks vs))) ≡ 0) (spare : size (plug C (leaf m ks vs)) + split_need (full_run C) ≤ line.limit)
      where
        abbrev pub nodes : List NewNode
        nodes = split_nodes C (first ms) (second ms) (third ms) (with_pair key v ks vs)

        abbrev pub part : Tree
        part = node (third ms) (tagged_in C) (two_leaves (first ms) (second ms) 6 (with_pair key v ks vs))

        G : Growth C (leaf m ks vs) part key v nodes (m ∷ [])
        G = leaf_split C m ks vs key v (omega arith) full_leaf (omega (arith, pairs_part (has_key key) C (leaf m ks vs))) (first ms) (second ms) (third ms)

        in_order : numbers nodes ≡ ms
        in_order = three_of ms three

        given_total : (i : ℕ) → total (indicator i) (numbers nodes) ≡ total (indicator i) ms
        given_total i = ap (total (indicator i)) in_order

        fresh : (i : ℕ) → node_total (indicator i) (plug C (leaf m ks vs)) + total (indicator i) (numbers nodes) ≤ 1
        fresh i = omega (arith, given_fresh line free (plug C (leaf m ks vs)) exact ms given i, given_total i)

        reshape : Sound (plug C part) × (table_violations (plug C part) ≡ own_in C part)
        reshape = reshaped C (leaf m ks vs) part key nodes (m ∷ []) (growth_reshape C (leaf m ks vs) part key v nodes (m ∷ []) G) sound balanced leads low high fresh

        card : OnTheCard c C (leaf m ks vs) part nodes
        card =
            on_the_card_lem c C (leaf m ks vs) part nodes G.few G.represented holds fresh reshape.0.once
            (λ i q. given_on_card line free (plug C (leaf m ks vs)) exact ms given c len i (omega (arith, given_total i)))

        moved : Partition line (with_all (m ∷ []) (without_all ms free)) (plug C part)
        moved =
            partition_after line free (plug C (leaf m ks vs)) exact ms given (plug C part) (m ∷ []) fits
            (λ i. omega (arith, G.same_numbers (indicator i), total_plug (indicator i) C (leaf m ks vs), total_plug (indicator i) C part, given_total i))
            (λ i. omega (arith, total_plug (indicator i) C (leaf m ks vs)))

        reserve_le : (D : Context) → reserve D (node (third ms) (tagged_in C) (two_leaves (first ms) (second ms) 6 (with_pair key v ks vs))) ≤ full_run D
        reserve_le D = at (tagged_in C)
          where
            at : (g : Bool) → reserve D (node (third ms) g (two_leaves (first ms) (second ms) 6 (with_pair key v ks vs))) ≤ full_run D
            at true = omega arith
            at false = omega arith

        two_more : size (plug C part) ≡ size (plug C (leaf m ks vs)) + 2
        two_more = omega (arith, G.same_numbers (λ m. 1), total_plug (λ m. 1) C (leaf m ks vs), total_plug (λ m. 1) C part, ap (total (λ m. 1)) in_order, total_length ms, three)

        ready : (level : ℕ) × Mendable key line.limit (plug C part) level × (level ≤ depth_of C)
        ready =
            ready_after key line.limit C part reshape.1 G.at_most_one (on_path line key free C m ks vs sound balanced exact room leads low high)
            (omega (arith, two_more, reserve_le C))

        place_of : (link_place C < length c) × Own line (link_place C)
        place_of = link_on_card c line free C (leaf m ks vs) holds exact

        pub split_changing : Changing c line key (plug C (leaf m ks vs)) (node_stores nodes ++ (link_place C, third ms) ∷ []) (without_all ms free) (m ∷ [])
        split_changing =
            record {
              next = plug C part;
              plays =
                  writes_play line (plug C part) (plug C (leaf m ks vs)) (numbered nodes) (link_place C) (third ms) sound
                  (record { key = key; deep = 0; ready = settled balanced room })
                  (weight_apart (numbered nodes) (plug C (leaf m ks vs)) (λ i q. omega (arith, fresh i, numbered_total nodes i))) place_of.1
                  (λ i q. given_own line free (plug C (leaf m ks vs)) exact ms given i (omega (arith, numbered_total nodes i, given_total i))) (node_stores nodes) c card.within holds
                  (λ i q. given_on_card line free (plug C (leaf m ks vs)) exact ms given c len i (omega (arith, given_total i, numbered_total nodes i))) place_of.0 card.after;
              sound = reshape.0;
              exact = moved;
              level = ready.0;
              ready = ready.1;
            }

        pub split_level : split_changing.level ≤ depth_of C
        unfolding split_changing
        split_level = ready.2

        pub split_enters : Changes (put key v) (pairs (plug C (leaf m ks vs))) (pairs split_changing.next)
        unfolding split_changing
        split_enters = changes_put key v (pairs (plug C (leaf m ks vs))) (pairs (plug C part)) high absent (λ w. omega (arith, pairs_plug w C (leaf m ks vs) part, G.pair_more w))

        pub split_shaped : first_equal ks 0 0 ≡ None → bare split_changing.next ≡ first_shape (put key v) (bare (plug C (leaf m ks vs)))
        unfolding split_changing first_shape put_in put_at
        split_shaped e =
            let c = changed_leaf (put_in key v) key (bare_context C) 0 ks vs (bare_reaches key C (leads_reach key C leads)) in
            rw (bare_plug C part, bare_plug C (leaf m ks vs), c, e, bare_tagged_in C)

        pub split_count : length (node_stores nodes ++ (link_place C, third ms) ∷ []) ≡ 73
        split_count = length-append (node_stores nodes) ((link_place C, third ms) ∷ []) ∙ ap (λ (x : ℕ). x + 1) (length_node_stores nodes G.few)

-- the first change of an update, whichever it is: where it leads, what is entered, and how deep a violation it may leave
pub record First (c : List ℕ) (line : Line) (key : ℕ) (t : Tree) (stores : List Store) (free : List Bool) (cut : List ℕ) (u : Update) (deep : ℕ) : Type 0 where
  pub changing : Changing c line key t stores free cut
  pub enters : Changes u (pairs t) (pairs changing.next)
  pub shallow : changing.level ≤ deep
  pub shaped : bare changing.next ≡ first_shape u (bare t)
