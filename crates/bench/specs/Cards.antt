-- Document 01, "Bench cards": the starred cards as one table, computed through the definitions that the calls are proved to meet.
-- "Keys k carry value 10 × k. L is N = 4 fresh; S is N = 6 fresh with keys 1 to 11 inserted."
use Rattle.std.specs.Prelude.{◌≡◌, List, [], ◌∷◌, ◌++◌, ℕ, zero, suc, ◌+◌, ◌*◌, get_or, replicate}
use Rattle.card.specs.Layout.{greatest_nodes}
use Rattle.card.specs.Layout.{node_at, children, routing_keys, leaf_pairs}
use Rattle.card_free.specs.NodeSet.{count_true}
use Rattle.laws.specs.Sorting.{pair_keys}
use Rattle.card.specs.Replies.{Reply, refusal, holds, absent, idle, started as begun}
use Rattle.call_find.specs.Answers.{found_reply}
use Rattle.state.specs.Answers.{step_reply, start_reply}
use Rattle.call_find.specs.Find.{find_of}
use Rattle.call_open.specs.Opening.{open_of}
use Rattle.call_start.specs.Starts.{format_of, insert_of, delete_of}
use Rattle.call_step.specs.Calls.{step_of}
use Rattle.state.specs.Steps.{Handed, Step}
use Rattle.state.specs.Memory.{Memory}
use Rattle.state.specs.Answer.{Answer}
use Rattle.state.specs.Answer.{Stored, Ready, Absent, Value, Refused}

-- a card being worked, with the stores of its last call counted and that call's final answer
pub record Bench : Type 0 where
  pub card : List ℕ
  pub memory : Memory
  pub stores : ℕ
  pub answer : Answer

abbrev pub bench : Step → ℕ → Answer → Bench
bench s n a = record { card = s.card; memory = s.memory; stores = n; answer = a }

unfoldable pub on_answer : (Bench → Bench) → Step → ℕ → Answer → Bench
on_answer next s n (Stored place) = next (bench s (suc n) (Stored place))
on_answer next s n Ready = bench s n Ready
on_answer next s n Absent = bench s n Absent
on_answer next s n (Value v) = bench s n (Value v)
on_answer next s n (Refused r) = bench s n (Refused r)

-- steps until a final answer or a refusal, at most so many
unfoldable pub drive : ℕ → Bench → Bench
drive zero b = b
drive (suc k) b = on_answer (drive k) (step_of greatest_nodes 1 b.card b.memory) b.stores (step_of greatest_nodes 1 b.card b.memory).answer

abbrev pub begin : List ℕ → Handed → Bench
begin card b = record { card = card; memory = b.memory; stores = 0; answer = Stored 0 }

-- a card of n nodes, formatted
unfoldable pub fresh : ℕ → Bench
fresh n = drive 20000 (begin (replicate (8 + 24 * n) 9) (format_of greatest_nodes (replicate (8 + 24 * n) 9)))

unfoldable pub insert_whole : ℕ → ℕ → Bench → Bench
insert_whole k v b = drive 700 (begin b.card (insert_of greatest_nodes 1 b.card b.memory k v))

unfoldable pub delete_whole : ℕ → Bench → Bench
delete_whole k b = drive 700 (begin b.card (delete_of greatest_nodes 1 b.card b.memory k))

-- so many steps of an insert, and then power goes: the card as it is
unfoldable pub steps : ℕ → Bench → Bench
steps zero b = b
steps (suc k) b = steps k (bench (step_of greatest_nodes 1 b.card b.memory) b.stores (Stored 0))

unfoldable pub upto : ℕ → Bench → Bench
upto zero b = b
upto (suc k) b = insert_whole (suc k) (10 * suc k) (upto k b)

-- an answer's number and value, in a row of the table
abbrev pub said : Reply → List ℕ
said r = r.code ∷ r.value ∷ []

unfoldable pub card_l : Bench
card_l = fresh 4

unfoldable pub card_b : Bench
card_b = insert_whole 7 70 card_l

unfoldable pub card_s : Bench
card_s = upto 11 (fresh 6)

unfoldable pub card_i : Bench
card_i = insert_whole 12 120 card_s

unfoldable pub card_k : Bench
card_k = delete_whole 5 (delete_whole 4 (delete_whole 3 (delete_whole 2 (delete_whole 1 card_i))))

unfoldable pub card_l2 : Bench
card_l2 = delete_whole 9 (delete_whole 10 (delete_whole 8 (delete_whole 7 card_k)))

-- one store of card B's insert, then power goes
abbrev pub cut_b : List ℕ
cut_b = (steps 1 (begin card_l.card (insert_of greatest_nodes 1 card_l.card card_l.memory 7 70))).card

-- B again, whole, on the card opened after that cut
abbrev pub again_b : Bench
again_b = insert_whole 7 70 (begin cut_b (open_of greatest_nodes cut_b))

-- the card in the middle of card I's split: 40 of its 73 stores, then power goes
abbrev pub cut_i : Bench → List ℕ
cut_i b = (steps 40 (begin b.card (insert_of greatest_nodes 1 b.card b.memory 12 120))).card

-- the same after all 73
abbrev pub split_i : Bench → List ℕ
split_i b = (steps 73 (begin b.card (insert_of greatest_nodes 1 b.card b.memory 12 120))).card

-- A: L, find 7: absent
unfoldable pub row_a : List ℕ
row_a = said (found_reply (find_of greatest_nodes 1 card_l.card 7))

-- B: L, insert 7: word 20 gets 70, then word 9 gets 7; two stores, absent
unfoldable pub row_b : List ℕ
row_b = get_or cut_b 20 0 ∷ get_or cut_b 9 0 ∷ get_or card_b.card 20 0 ∷ get_or card_b.card 9 0 ∷ card_b.stores ∷ said (step_reply card_b.answer)

-- C: B cut after one store: find 7 absent
unfoldable pub row_c : List ℕ
row_c = said (found_reply (find_of greatest_nodes 1 cut_b 7))

-- D: then B whole, insert 7 with 71: answers 70, no store
unfoldable pub row_d : List ℕ
row_d = again_b.stores ∷ (insert_whole 7 71 again_b).stores ∷ said (step_reply (insert_whole 7 71 again_b).answer)

-- E: delete 7: word 9 gets 0, answers 70
unfoldable pub row_e : List ℕ
row_e = (delete_whole 7 card_b).stores ∷ get_or (delete_whole 7 card_b).card 9 0 ∷ said (step_reply (delete_whole 7 card_b).answer)

-- F: L, delete 7: absent
unfoldable pub row_f : List ℕ
row_f = (delete_whole 7 card_l).stores ∷ said (step_reply (delete_whole 7 card_l).answer)

-- G: 104 words may be formatted; 80, 103, 105 are refused 1. 14,432 may; 62,432 not
unfoldable pub row_g104 : List ℕ
row_g104 = said (start_reply (format_of greatest_nodes (replicate 104 0)).begun)

unfoldable pub row_g80 : List ℕ
row_g80 = said (start_reply (format_of greatest_nodes (replicate 80 0)).begun)

unfoldable pub row_g103 : List ℕ
row_g103 = said (start_reply (format_of greatest_nodes (replicate 103 0)).begun)

unfoldable pub row_g105 : List ℕ
row_g105 = said (start_reply (format_of greatest_nodes (replicate 105 0)).begun)

unfoldable pub row_g14432 : List ℕ
row_g14432 = said (start_reply (format_of greatest_nodes (replicate 14432 0)).begun)

unfoldable pub row_g62432 : List ℕ
row_g62432 = said (start_reply (format_of greatest_nodes (replicate 62432 0)).begun)

-- H: key 0 refused 6; 4,294,967,295 accepted
unfoldable pub row_hinsert : List ℕ
row_hinsert = said (start_reply (insert_of greatest_nodes 1 card_l.card card_l.memory 0 1).begun)

unfoldable pub row_hfind : List ℕ
row_hfind = said (found_reply (find_of greatest_nodes 1 card_l.card 0))

unfoldable pub row_hgreatest : List ℕ
row_hgreatest = said (start_reply (insert_of greatest_nodes 1 card_l.card card_l.memory 4294967295 1).begun)

-- I: S, insert 12: 73 stores, leaves 2 and 3, root 4, routing key 7
unfoldable pub row_i : List ℕ
row_i = card_i.stores ∷ get_or card_i.card 4 0 ∷ (children (node_at card_i.card 4) ++ routing_keys (node_at card_i.card 4))

-- J: with N = 5, refused 8
unfoldable pub row_j : List ℕ
row_j = said (start_reply (insert_of greatest_nodes 1 (upto 11 (fresh 5)).card (upto 11 (fresh 5)).memory 12 120).begun)

-- K: after I, delete 1 to 5: the last takes 74 stores, leaves 5 (6 to 9) and 6 (10 to 12), root 1, routing key 10
unfoldable pub row_k : List ℕ
row_k = card_k.stores ∷ get_or card_k.card 4 0 ∷ (children (node_at card_k.card 1) ++ routing_keys (node_at card_k.card 1))

unfoldable pub row_kleft : List ℕ
row_kleft = pair_keys (leaf_pairs (node_at card_k.card 5))

unfoldable pub row_kright : List ℕ
row_kright = pair_keys (leaf_pairs (node_at card_k.card 6))

-- L2: then delete 7, 8, 10, 9: the last takes 26 stores, root is leaf 2 with 6, 11, 12, and 5 nodes are free
unfoldable pub row_l2 : List ℕ
row_l2 = card_l2.stores ∷ get_or card_l2.card 4 0 ∷ count_true card_l2.memory.free ∷ said (step_reply card_l2.answer)

unfoldable pub row_l2leaf : List ℕ
row_l2leaf = pair_keys (leaf_pairs (node_at card_l2.card 2))

-- power gone in the middle of I's split: opened idle, 12 absent; after its 73rd store: held
unfoldable pub row_cut_opened : List ℕ
row_cut_opened = said (start_reply (open_of greatest_nodes (cut_i card_s)).begun)

unfoldable pub row_cut_absent : List ℕ
row_cut_absent = said (found_reply (find_of greatest_nodes 1 (cut_i card_s) 12))

unfoldable pub row_cut_held : List ℕ
row_cut_held = said (found_reply (find_of greatest_nodes 1 (split_i card_s) 12))

-- the starred cards, as one table: what each row says
abbrev pub StarredCards : Type 0
StarredCards =
    row_a ∷ row_b ∷ row_c ∷ row_d ∷ row_e ∷ row_f ∷ row_g104 ∷ row_g80 ∷ row_g103 ∷ row_g105 ∷ row_g14432 ∷ row_g62432 ∷ row_hinsert ∷ row_hfind
    ∷ row_hgreatest ∷ row_i ∷ row_j ∷ row_k ∷ row_kleft ∷ row_kright ∷ row_l2 ∷ row_l2leaf ∷ row_cut_opened ∷ row_cut_absent ∷ row_cut_held ∷ []
    ≡ (said absent)
    ∷ (70 ∷ 0 ∷ 70 ∷ 7 ∷ 2 ∷ said absent)
    ∷ (said absent)
    ∷ (2 ∷ 0 ∷ said (holds 70))
    ∷ (1 ∷ 0 ∷ said (holds 70))
    ∷ (0 ∷ said absent)
    ∷ (said begun)
    ∷ (said (refusal 1))
    ∷ (said (refusal 1))
    ∷ (said (refusal 1))
    ∷ (said begun)
    ∷ (said (refusal 1))
    ∷ (said (refusal 6))
    ∷ (said (refusal 6))
    ∷ (said begun)
    ∷ (73 ∷ 4 ∷ 2 ∷ 3 ∷ 7 ∷ [])
    ∷ (said (refusal 8))
    ∷ (74 ∷ 1 ∷ 5 ∷ 6 ∷ 10 ∷ [])
    ∷ (6 ∷ 7 ∷ 8 ∷ 9 ∷ [])
    ∷ (10 ∷ 11 ∷ 12 ∷ [])
    ∷ (26 ∷ 2 ∷ 5 ∷ said (holds 90))
    ∷ (6 ∷ 11 ∷ 12 ∷ [])
    ∷ (said idle)
    ∷ (said absent)
    ∷ (said (holds 120))
    ∷ []
