-- Laws of new nodes' places and words, and of the rows of a change.
use mathlib.Core.Path.{◌≡◌, refl, ap, ap₂, sym, ◌∙◌}
use mathlib.Core.List.{List, [], ◌∷◌, ◌++◌, map, zip, zip_with, append-nil, append_assoc}
use Prim.Native.Nat.{ℕ, zero, suc, ◌+◌, ◌-◌, ◌*◌, ◌≤◌, ◌<◌}
use native.Mathlib.Omega.{arith}
use native.Mathlib.Numerals.{add-one}
use lib.ListN.{length, set, get_or, take, drop, replicate, drop_of_length-le, length-append, length-drop, length-map, length-replicate}
use lib.Seq.{drop-cons, set_at, take_at, drop_at, length-take-le, take-suc}
use Rattle.laws.specs.Lists.{pad}
use Rattle.laws.proofs.Lists.{length_pad}
use Rattle.card.specs.Layout.{place, node_image, children}
use Rattle.card.specs.Stores.{Store, stores, NewNode, node_stores}
use Rattle.card.proofs.NodeLaws.{children_words}
use Rattle.change_plan.specs.Change.{Change, change_stores}
use Rattle.change_rows.specs.Nodes.{count_from, node_places, places_of, image_of, new_words, change_places, change_words, change_length}
use Rattle.change_rows.proofs.RowLaws.{lay_next}

length_count : (k p : ℕ) → length (count_from k p) ≡ k
unfolding count_from
length_count zero p = refl
length_count (suc k) p = ap suc (length_count k (suc p))

count_at : (k p i : ℕ) → i < k → get_or (count_from k p) i 0 ≡ p + i
unfolding count_from
count_at zero p i h = absurd (omega arith)
count_at (suc k) p zero h = omega arith
count_at (suc k) p (suc i) h = count_at k (suc p) i (omega arith) ∙ omega arith

pub length_places : (m : ℕ) → length (node_places m) ≡ 24
unfolding node_places
length_places m = length_count 24 (place m 0)

pub place_at : (m i : ℕ) → i < 24 → get_or (node_places m) i 0 ≡ 8 + 24 * (m - 1) + i
unfolding node_places
place_at m i h = count_at 24 (place m 0) i h ∙ omega arith

zip_stores : (k p : ℕ) (ws : List ℕ) → length ws ≡ k → zip (count_from k p) ws ≡ stores p ws
unfolding count_from zip zip_with
zip_stores zero p [] e = refl
zip_stores zero p (w ∷ ws) e = absurd (omega arith)
zip_stores (suc k) p [] e = absurd (omega arith)
zip_stores (suc k) p (w ∷ ws) e = ap (λ (l : List Store). (p, w) ∷ l) (zip_stores k (suc p) ws (omega arith))

-- ---- nodes one after the other

zip_append : (a b c d : List ℕ) → length a ≡ length c → zip (a ++ b) (c ++ d) ≡ zip a c ++ zip b d
unfolding zip zip_with
zip_append [] b [] d e = refl
zip_append [] b (z ∷ c) d e = absurd (omega arith)
zip_append (x ∷ a) b [] d e = absurd (omega arith)
zip_append (x ∷ a) b (z ∷ c) d e = ap (λ (l : List Store). (x, z) ∷ l) (zip_append a b c d (omega arith))

pub length_places_of : (ms : List ℕ) → length (places_of ms) ≡ 24 * length ms
unfolding places_of
length_places_of [] = refl
length_places_of (m ∷ ms) = length-append (node_places m) (places_of ms) ∙ omega (arith, length_places m, length_places_of ms)

-- one node more
pub places_more : (ms : List ℕ) (m : ℕ) → places_of (ms ++ m ∷ []) ≡ places_of ms ++ node_places m
unfolding places_of
places_more [] m = append-nil (node_places m)
places_more (x ∷ ms) m = ap (λ (l : List ℕ). node_places x ++ l) (places_more ms m) ∙ sym (append_assoc (node_places x) (places_of ms) (node_places m))

-- the places of the next of some nodes, in the part of the row that was lent for them
pub places_next : (d row part nodes : List ℕ) (i k : ℕ) → i < length nodes → row ≡ places_of (take i nodes) ++ drop (24 * i) d → k ≡ 24
    → part ≡ node_places (get_or nodes i 0) → take (24 * i) row ++ (part ++ drop k (drop (24 * i) row)) ≡ places_of (take (i + 1) nodes) ++ drop (24 * (i + 1)) d
places_next d row part nodes i k h e size f =
    let front : length (places_of (take i nodes)) ≡ 24 * i = length_places_of (take i nodes) ∙ ap (λ (n : ℕ). 24 * n) (length-take-le i nodes (omega arith)) in
    ap (λ (r : List ℕ). take (24 * i) r ++ (part ++ drop k (drop (24 * i) r))) e
    ∙ lay_next d (places_of (take i nodes)) part (24 * i) k front
    ∙ ap₂ (λ (l : List ℕ) (n : ℕ). l ++ drop n d)
    (ap (λ (l : List ℕ). places_of (take i nodes) ++ l) f ∙ sym (places_more (take i nodes) (get_or nodes i 0)) ∙ ap places_of (sym (ap (λ (n : ℕ). take n nodes) (add-one i) ∙ take-suc nodes i 0 h)))
    (let z : 24 * i + k ≡ 24 * (i + 1) = omega arith in z)

words_more : (xs : List NewNode) (x : NewNode) → new_words (xs ++ x ∷ []) ≡ new_words xs ++ image_of x
unfolding new_words
words_more [] x = append-nil (image_of x)
words_more (y ∷ xs) x = ap (λ (l : List ℕ). image_of y ++ l) (words_more xs x) ∙ sym (append_assoc (image_of y) (new_words xs) (image_of x))

-- a node has at least 24 words, so that where nodes have as many as they should each has just 24
least_padded : (l : List ℕ) → 11 ≤ length (pad 11 l)
least_padded l = omega (arith, length-append l (replicate (11 - length l) 0), length-replicate {A = ℕ} (11 - length l) 0)

least_image : (x : NewNode) → 24 ≤ length (image_of x)
unfolding node_image
least_image x =
    omega (
      arith,
      length-append (pad 11 x.keys) (pad 11 x.values ++ 0 ∷ []),
      length-append (pad 11 x.values) (0 ∷ []),
      least_padded x.keys,
      least_padded x.values,
    )

least_words : (xs : List NewNode) → 24 * length xs ≤ length (new_words xs)
unfolding new_words
least_words [] = omega arith
least_words (x ∷ xs) = omega (arith, length-append (image_of x) (new_words xs), least_image x, least_words xs)

new_stores : (xs : List NewNode) → length (new_words xs) ≡ 24 * length xs → zip (places_of (map (λ x. x.number) xs)) (new_words xs) ≡ node_stores xs
unfolding places_of new_words zip zip_with node_places
new_stores [] e = refl
new_stores (x ∷ xs) e =
    let long = length-append (image_of x) (new_words xs) in
    let one : length (image_of x) ≡ 24 = omega (arith, least_image x, least_words xs) in
    zip_append (node_places x.number) (places_of (map (λ y. y.number) xs)) (image_of x) (new_words xs) (length_places x.number ∙ sym one)
    ∙ ap₂ (λ (a b : List Store). a ++ b) (zip_stores 24 (place x.number 0) (image_of x) one) (new_stores xs (omega (arith, least_image x)))

length_numbers : (xs : List NewNode) → length (map (λ x. x.number) xs) ≡ length xs
length_numbers xs = length-map xs (λ x. x.number)

-- ---- the rows of a change

-- places and words are the stores, where there are as many words as there should be
pub change_stores_lem : (ch : Change) → length (change_words ch) ≡ change_length ch → zip (change_places ch) (change_words ch) ≡ change_stores ch
unfolding change_places change_words change_length change_stores zip zip_with
change_stores_lem ch e =
    let ms = map (λ x. x.number) ch.nodes in
    let words : length (new_words ch.nodes) ≡ 24 * length ch.nodes = omega (arith, length-append (new_words ch.nodes) (ch.top ∷ [])) in
    zip_append (places_of ms) (ch.link ∷ []) (new_words ch.nodes) (ch.top ∷ []) (length_places_of ms ∙ ap (λ (k : ℕ). 24 * k) (length_numbers ch.nodes) ∙ sym words)
    ∙ ap (λ (l : List Store). l ++ (ch.link, ch.top) ∷ []) (new_stores ch.nodes words)

-- what is at the front of a row that is as long as before is as long as what it replaces
pub front_length : (row front d : List ℕ) (n : ℕ) → row ≡ front ++ drop n d → length row ≡ length d → n ≤ length d → length front ≡ n
front_length row front d n e l h = omega (arith, ap length e, length-append front (drop n d), length-drop n d)

-- one word after those at the front of a row
pub row_linked : (d front : List ℕ) (n x : ℕ) → length front ≡ n → n < length d → set (front ++ drop n d) n x ≡ (front ++ x ∷ []) ++ drop (n + 1) d
row_linked d front n x e l =
    ap (λ (r : List ℕ). set (front ++ r) n x) (drop-cons d n 0 l)
    ∙ set_at front (get_or d n 0) (drop (suc n) d) x n e
    ∙ ap (λ (k : ℕ). front ++ x ∷ drop k d) (sym (add-one n))
    ∙ sym (append_assoc front (x ∷ []) (drop (n + 1) d))

-- The words of a change: nodes at the front of the row, one node more in the part that was lent for it, and the link's value.
module _ (xs : List NewNode) (x : NewNode) (d row part : List ℕ) (n k top : ℕ) (size : n ≡ 24 * length xs) (end : k ≡ n + 24) where
  pub words_laid : row ≡ new_words xs ++ drop n d → length row ≡ length d → length part ≡ length (take 24 (drop n row)) → k < length d → part ≡ image_of x
      → set (take n row ++ (part ++ drop 24 (drop n row))) k top ≡ (new_words (xs ++ x ∷ []) ++ top ∷ []) ++ drop (24 * length (xs ++ x ∷ []) + 1) d
  words_laid e l p h f =
      let front : length (new_words xs) ≡ n = front_length row (new_words xs) d n e l (omega arith) in
      let image : length part ≡ 24 = p ∙ length-take-le 24 (drop n row) (omega (arith, length-drop n row)) in
      let more : new_words xs ++ part ≡ new_words (xs ++ x ∷ []) = ap (λ (w : List ℕ). new_words xs ++ w) f ∙ sym (words_more xs x) in
      let next : take n row ++ (part ++ drop 24 (drop n row)) ≡ new_words (xs ++ x ∷ []) ++ drop k d =
      ap (λ (r : List ℕ). take n r ++ (part ++ drop 24 (drop n r))) e ∙ lay_next d (new_words xs) part n 24 front
      ∙ ap₂ (λ (w : List ℕ) (i : ℕ). w ++ drop i d) more (sym end) in
      let whole : length (new_words (xs ++ x ∷ [])) ≡ k = omega (arith, ap length more, length-append (new_words xs) part) in
      ap (λ (r : List ℕ). set r k top) next ∙ row_linked d (new_words (xs ++ x ∷ [])) k top whole h
      ∙ ap (λ (i : ℕ). (new_words (xs ++ x ∷ []) ++ top ∷ []) ++ drop i d) (let z : k + 1 ≡ 24 * length (xs ++ x ∷ []) + 1 = omega (arith, length-append xs (x ∷ [])) in z)

-- the part of a node that holds its children, as the code cuts it out
pub children_part : (node : List ℕ) (c : ℕ) → c ≡ length (children node) → take (12 + c - 12) (drop 12 node) ≡ children node
children_part node c e = ap (λ (k : ℕ). take k (drop 12 node)) (let z : 12 + c - 12 ≡ c = omega arith in z) ∙ sym (children_words node c e)

-- ---- a node's own words

-- a node's words from its two rows, laid between its kind and a 0
laid_last : (kind : ℕ) (a b rest : List ℕ) → length a ≡ 11 → length b ≡ 11 → length rest ≡ 12
    → set (kind ∷ (a ++ (b ++ drop 11 rest))) 23 0 ≡ kind ∷ (a ++ (b ++ 0 ∷ []))
laid_last kind a b rest la lb lr =
    let end : drop 11 rest ≡ get_or rest 11 0 ∷ [] =
    drop-cons rest 11 0 (omega arith) ∙ ap (λ (l : List ℕ). get_or rest 11 0 ∷ l) (drop_of_length-le rest {i = 12} (omega arith)) in
    ap (λ (l : List ℕ). set (kind ∷ (a ++ (b ++ l))) 23 0) end
    ∙ ap (λ (l : List ℕ). kind ∷ set l 22 0) (sym (append_assoc a b (get_or rest 11 0 ∷ [])))
    ∙ ap (λ (l : List ℕ). kind ∷ l) (set_at (a ++ b) (get_or rest 11 0) [] 0 22 (length-append a b ∙ omega arith) ∙ append_assoc a b (0 ∷ []))

laid : (kind : ℕ) (words a b : List ℕ) → length words ≡ 24 → length a ≡ 11 → length b ≡ 11
    → let once = take 1 words ++ (a ++ drop 11 (drop 1 words)) in
    set (set (take 12 once ++ (b ++ drop 11 (drop 12 once))) 0 kind) 23 0 ≡ kind ∷ (a ++ (b ++ 0 ∷ []))
laid kind [] a b lw la lb = absurd (omega arith)
laid kind (w ∷ words) a b lw la lb =
    let rest : List ℕ = drop 11 words in
    let front : take 11 (a ++ rest) ≡ a = take_at a rest 11 la in
    let back : drop 11 (a ++ rest) ≡ rest = drop_at a rest 11 la in
    ap₂ (λ (x y : List ℕ). set (kind ∷ (x ++ (b ++ drop 11 y))) 23 0) front back
    ∙ laid_last kind a b rest la lb (length-drop 11 words ∙ omega arith)

pub node_laid : (kind : ℕ) (words a b keys beside : List ℕ) → length words ≡ 24 → length keys ≤ 11 → length beside ≤ 11 → a ≡ pad 11 keys → b ≡ pad 11 beside
    → let once = take 1 words ++ (a ++ drop 11 (drop 1 words)) in
    set (set (take 12 once ++ (b ++ drop 11 (drop 12 once))) 0 kind) 23 0 ≡ node_image kind keys beside
unfolding node_image
node_laid kind words a b keys beside lw lk lb e f =
    laid kind words a b lw (ap length e ∙ length_pad 11 keys lk) (ap length f ∙ length_pad 11 beside lb)
    ∙ ap₂ (λ (x y : List ℕ). kind ∷ (x ++ (y ++ 0 ∷ []))) e f
