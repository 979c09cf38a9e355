-- Laws of stores played one after the other: what is written is there, and all else is as it was.
use mathlib.Core.Path.{◌≡◌, refl, sym, ap, ◌∙◌, subst}
use mathlib.Core.List.{List, [], ◌∷◌, ◌++◌}
use Prim.Native.Nat.{ℕ, zero, suc, ◌+◌, ◌≤◌, ◌<◌}
use native.Mathlib.Omega.{arith}
use lib.ListN.{length, set, get_or, take, length-append, length-set, length-replicate}
use lib.Seq.{get_or-set_same, get_or-set_other}
use Rattle.laws.specs.Totals.{indicator}
use Rattle.laws.proofs.Totals.{indicator_same}
use Rattle.laws.specs.Lists.{pad}
use Rattle.laws.proofs.Lists.{length_pad, get_d_pad, get_d_left, get_d_right}
use Rattle.card.specs.Layout.{place, word, node_image}
use Rattle.card.specs.NodeWords.{OnCard, NodeWords}
use Rattle.card.proofs.NodeWords.{node_words_other, Keeps}
use Rattle.card.specs.Stores.{Store, stores, NewNode, node_stores}

abbrev pub play : List Store → List ℕ → List ℕ
play [] c = c
play (s ∷ ss) c = play ss (set c s.0 s.1)

pub length_play : (ss : List Store) (c : List ℕ) → length (play ss c) ≡ length c
length_play [] c = refl
length_play (s ∷ ss) c = length_play ss _ ∙ simp length-set

pub play_append : (a b : List Store) (c : List ℕ) → play (a ++ b) c ≡ play b (play a c)
play_append [] b c = refl
play_append (s ∷ a) b c = play_append a b _

-- plans that stay in nodes of positive weight
pub data Within (w : ℕ → ℕ) : List Store → Type 0 where
  done : Within w []
  also : {ss : List Store} (i x v p : ℕ) → p ≡ place i x → 0 < i → x < 24 → 0 < w i → Within w ss → Within w ((p, v) ∷ ss)

pub within_take : {w : ℕ → ℕ} {ss : List Store} (n : ℕ) → Within w ss → Within w (take n ss)
within_take zero h = done
within_take (suc n) done = done
within_take (suc n) (also i x v p e hi hx hw h) = also i x v p e hi hx hw (within_take n h)

pub within_append : {w : ℕ → ℕ} {a b : List Store} → Within w a → Within w b → Within w (a ++ b)
within_append done g = g
within_append (also i x v p e hi hx hw h) g = also i x v p e hi hx hw (within_append h g)

pub keeps_play : {w : ℕ → ℕ} {ss : List Store} → Within w ss → (c : List ℕ) → Keeps c (play ss c) w
keeps_play done c m k a b e q = q
keeps_play {w} (also i x v p ep hi hx hw h) c m k a b e q = rw ep (keeps_play h _ m k a b e (node_words_other c m i x v hi (λ d. omega (arith, ap w d)) hx q))

pub within_stores : {w : ℕ → ℕ} (i : ℕ) → 0 < i → 0 < w i → (ws : List ℕ) (x p : ℕ) → p ≡ place i x → x + length ws ≤ 24 → Within w (stores p ws)
within_stores i hi hw [] x p e h = done
within_stores i hi hw (v ∷ ws) x p e h = also i x v p e hi (omega arith) hw (within_stores i hi hw ws (suc x) (suc p) (omega arith) (omega arith))

-- what is written is there
pub play_before : (ws : List ℕ) (p : ℕ) (c : List ℕ) (a : ℕ) → a < p → get_or (play (stores p ws) c) a 0 ≡ get_or c a 0
play_before [] p c a h = refl
play_before (v ∷ ws) p c a h = play_before ws (suc p) _ a (omega arith) ∙ get_or-set_other c p a v 0 (omega arith)

pub play_in : (ws : List ℕ) (p : ℕ) (c : List ℕ) (i : ℕ) → i < length ws → p + length ws ≤ length c → get_or (play (stores p ws) c) (p + i) 0 ≡ get_or ws i 0
play_in [] p c i h l = absurd (omega arith)
play_in (v ∷ ws) p c zero h l =
    ap (λ (a : ℕ). get_or (play (stores (suc p) ws) (set c p v)) a 0) (omega arith)
    ∙ play_before ws (suc p) (set c p v) p (omega arith) ∙ get_or-set_same c p v 0 (omega arith)
play_in (v ∷ ws) p c (suc i) h l = ap (λ (a : ℕ). get_or (play (stores (suc p) ws) (set c p v)) a 0) (omega arith) ∙ play_in ws (suc p) (set c p v) i (omega arith) (omega (arith, length-set c p v))

module _ (k : ℕ) (a b : List ℕ) (ha : length a ≤ 11) (hb : length b ≤ 11) where
  pub length_node_image : length (node_image k a b) ≡ 24
  unfolding node_image
  length_node_image = simp (length-append, length-replicate) (omega arith)

  abbrev B : List ℕ
  B = pad 11 b ++ 0 ∷ []

  abbrev A : List ℕ
  A = pad 11 a ++ B

  pub node_image_low : (i j : ℕ) → i ≡ 1 + j → j < 11 → get_or (node_image k a b) i 0 ≡ get_or a j 0
  unfolding node_image
  node_image_low i j e h = get_d_right (k ∷ []) A 1 i j refl e ∙ get_d_left (pad 11 a) B 11 j (length_pad 11 a ha) h ∙ get_d_pad 11 a j h

  pub node_image_high : (i j : ℕ) → i ≡ 12 + j → j < 11 → get_or (node_image k a b) i 0 ≡ get_or b j 0
  unfolding node_image
  node_image_high i j e h =
      get_d_right (k ∷ []) A 1 i (11 + j) refl (omega arith)
      ∙ get_d_right (pad 11 a) B 11 (11 + j) j (length_pad 11 a ha) refl
      ∙ get_d_left (pad 11 b) (0 ∷ []) 11 j (length_pad 11 b hb) h
      ∙ get_d_pad 11 b j h

  pub node_image_last : get_or (node_image k a b) 23 0 ≡ 0
  unfolding node_image
  node_image_last =
      get_d_right (k ∷ []) A 1 23 22 refl refl
      ∙ get_d_right (pad 11 a) B 11 22 11 (length_pad 11 a ha) refl
      ∙ get_d_right (pad 11 b) (0 ∷ []) 11 11 0 (length_pad 11 b hb) refl

  pub node_words_new : (m : ℕ) (c : List ℕ) → OnCard c m → NodeWords (play (stores (place m 0) (node_image k a b)) c) m k a b
  unfolding node_image
  node_words_new m c o =
      record {
        on = record { pos = o.pos; fits = rw (length_play) o.fits };
        kind = nodes_written 0 (omega arith);
        low = λ j h. nodes_written (1 + j) (omega arith) ∙ node_image_low (1 + j) j refl h;
        high = λ j h. nodes_written (12 + j) (omega arith) ∙ node_image_high (12 + j) j refl h;
        last = nodes_written 23 (omega arith) ∙ node_image_last;
      }
    where
      nodes_written : (j : ℕ) → j < 24 → word (play (stores (place m 0) (node_image k a b)) c) m j ≡ get_or (node_image k a b) j 0
      nodes_written j h =
          ap (λ (x : ℕ). get_or (play (stores (place m 0) (node_image k a b)) c) x 0) (omega arith)
          ∙ play_in (node_image k a b) (place m 0) c j (omega (arith, length_node_image)) (omega (arith, length_node_image, o.pos, o.fits))

pub record FitsCard (c : List ℕ) (X : NewNode) : Type 0 where
  pub on : OnCard c X.number
  pub few_keys : length X.keys ≤ 11
  pub few_values : length X.values ≤ 11

abbrev pub HasWords : List ℕ → NewNode → Type 0
HasWords c X = NodeWords c X.number X.kind X.keys X.values

abbrev pub numbered : List NewNode → ℕ → ℕ
numbered [] m = 0
numbered (X ∷ Xs) m = indicator X.number m + numbered Xs m

abbrev pub AllFitCard : List ℕ → List NewNode → Type 0
AllFitCard c [] = Unit
AllFitCard c (X ∷ Xs) = FitsCard c X × AllFitCard c Xs

abbrev pub Distinct : List NewNode → Type 0
Distinct [] = Unit
Distinct (X ∷ Xs) = (numbered Xs X.number ≡ 0) × Distinct Xs

abbrev pub AllHaveWords : List ℕ → List NewNode → Type 0
AllHaveWords c [] = Unit
AllHaveWords c (X ∷ Xs) = HasWords c X × AllHaveWords c Xs

pub on_card_play : (P : List Store) (c : List ℕ) (m : ℕ) → OnCard c m → OnCard (play P c) m
on_card_play P c m o = record { pos = o.pos; fits = rw length_play o.fits }

pub fits_play : (P : List Store) (c : List ℕ) (Xs : List NewNode) → AllFitCard c Xs → AllFitCard (play P c) Xs
fits_play P c [] h = tt
fits_play P c (X ∷ Xs) h = (record { on = on_card_play P c X.number h.0.on; few_keys = h.0.few_keys; few_values = h.0.few_values }, fits_play P c Xs h.1)

pub within_more : {w w' : ℕ → ℕ} {P : List Store} → ((m : ℕ) → w m ≤ w' m) → Within w P → Within w' P
within_more h done = done
within_more h (also i x v p e hi hx hw r) = also i x v p e hi hx (omega (arith, h i)) (within_more h r)

pub within_node_stores : (c : List ℕ) (Xs : List NewNode) → AllFitCard c Xs → Within (numbered Xs) (node_stores Xs)
within_node_stores c [] h = done
within_node_stores c (X ∷ Xs) h =
    within_append
    (within_stores X.number h.0.on.pos (omega (arith, indicator_same X.number)) (node_image X.kind X.keys X.values) 0
    (place X.number 0) refl (omega (arith, length_node_image X.kind X.keys X.values h.0.few_keys h.0.few_values)))
    (within_more (λ m. omega arith) (within_node_stores c Xs h.1))

pub nodes_written : (c : List ℕ) (Xs : List NewNode) → AllFitCard c Xs → Distinct Xs → AllHaveWords (play (node_stores Xs) c) Xs
nodes_written c [] h d = tt
nodes_written c (X ∷ Xs) h d =
    let P = stores (place X.number 0) (node_image X.kind X.keys X.values) in
    let f = fits_play P c Xs h.1 in
    subst (λ (z : List ℕ). AllHaveWords z (X ∷ Xs)) (sym (play_append P (node_stores Xs) c)) (
      keeps_play (within_node_stores (play P c) Xs f) (play P c) X.number X.kind X.keys X.values d.0
          (node_words_new X.kind X.keys X.values h.0.few_keys h.0.few_values X.number c h.0.on),
      nodes_written (play P c) Xs f d.1,
    )
