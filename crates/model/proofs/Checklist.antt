-- Document 01, "Traps" and "Reviewer's checklist": for each token that they rule out a short trace, computed, that this token fails; Edges and EdgesSign
-- have the same for all inputs. The check takes the modules in the order of their names, what they use first, so that this one comes before every law
-- about commands: a wrong definition is refused here, at the sentence that it breaks. A trace that one wrong token fails, those further down pass.
-- Assumes nothing.
use mathlib.Core.Path.{◌≡◌, refl, ap, ◌∙◌}
use mathlib.Core.Bool.{Bool, true, cond}
use mathlib.Core.List.{List, [], ◌∷◌, ◌++◌}
use mathlib.Core.Option.{Option, none, some, get_or}
use Prim.Native.Nat.{ℕ}
use lib.ListN.{replicate}
use Rattle.model.specs.Lists.{all, empty, eq_bytes}
use Rattle.model.specs.Sha256.{sha256}
use Rattle.model.specs.Tlv.{app_id, access_token, field_in}
use Rattle.model.specs.Records.{Record, Table}
use Rattle.model.specs.Commands.{Call, mixed_in, Result, Effect, refused, gave, Answer, response, draft, with_count, judge, kind, table_of, refusals, perform_for, perform, outcome}
use Rattle.model.specs.Withdrawals.{withdraw}
use Rattle.model.specs.Traces.{withdraws, Form, handed, owner}
use Rattle.model.proofs.Basics.{split, and_left, and_right, eq_bytes-eq}
use Rattle.model.proofs.Computing.{computing, hashing, answered, left_after, each-form, token, holder, lent, stands, ann, bo, ann_then_bo, standing, sign_command, register_command, info, krd, signed_data_of, ann_then_bo_listed}

-- ---- the caller's commands, in order, on a table handed in either form: their answers, and the table left. The outputs are as short as they may be

abbrev calls : Form → List ℕ → Table → Result Effect
calls f s t = outcome (record { command = s; lent = lent; output = 4096; table_output = some 6912 }) (handed f t)

abbrev answers : Form → List (List ℕ) → Table → List (Result Answer)
answers f [] t = []
answers f (s ∷ ss) t =
    let o = calls f s t in
    answered o ∷ answers f ss (left_after o t)

abbrev left : Form → List (List ℕ) → Table → Table
left f [] t = t
left f (s ∷ ss) t = left f ss (left_after (calls f s t) t)

pub record Answers (t : Table) (ss : List (List ℕ)) (rs : List (Result Answer)) : Type 0 where
  pub in_either_form : (f : Form) → answers f ss t ≡ rs

pub record Leaves (t : Table) (ss : List (List ℕ)) (u : Table) : Type 0 where
  pub in_either_form : (f : Form) → left f ss t ≡ u

-- ---- each of the three mixed tokens that come is hashed once, and then written out

-- the hash of the caller's access token and the AppID "a"
abbrev holder_of_a : List ℕ
holder_of_a =
    0xC3 ∷ 0x07 ∷ 0x88 ∷ 0x20 ∷ 0x7A ∷ 0x86 ∷ 0x98 ∷ 0x10 ∷ 0x7E ∷ 0xBB ∷ 0xE6 ∷ 0x24 ∷ 0x51 ∷ 0x38 ∷ 0x3F ∷ 0xDE
    ∷ 0x61 ∷ 0x3A ∷ 0x74 ∷ 0xE4 ∷ 0x26 ∷ 0xAA ∷ 0xC7 ∷ 0x5C ∷ 0xC0 ∷ 0x0D ∷ 0xCB ∷ 0x58 ∷ 0x1C ∷ 0xFB ∷ 0x08 ∷ 0xDD ∷ []

-- the hash of nothing, of a command that has no access token
abbrev nobody : List ℕ
nobody =
    0xE3 ∷ 0xB0 ∷ 0xC4 ∷ 0x42 ∷ 0x98 ∷ 0xFC ∷ 0x1C ∷ 0x14 ∷ 0x9A ∷ 0xFB ∷ 0xF4 ∷ 0xC8 ∷ 0x99 ∷ 0x6F ∷ 0xB9 ∷ 0x24
    ∷ 0x27 ∷ 0xAE ∷ 0x41 ∷ 0xE4 ∷ 0x64 ∷ 0x9B ∷ 0x93 ∷ 0x4C ∷ 0xA4 ∷ 0x95 ∷ 0x99 ∷ 0x1B ∷ 0x78 ∷ 0x52 ∷ 0xB8 ∷ 0x55 ∷ []

nobody_is : sha256 [] ≡ nobody
unfolding hashing
nobody_is = refl

holder-is : sha256 token ≡ holder
unfolding hashing
holder-is = refl

holder_of_a_is : sha256 (token ++ (0x61 ∷ [])) ≡ holder_of_a
unfolding hashing
holder_of_a_is = refl

-- a command's mixed token, where this test passes
abbrev owner_of : List ℕ → List ℕ
owner_of s = cond (empty (field_in access_token s)) nobody (cond (empty (field_in app_id s)) holder holder_of_a)

abbrev known : List ℕ → Bool
known s =
    eq_bytes (field_in access_token s ++ field_in app_id s)
    (cond (empty (field_in access_token s)) [] (cond (empty (field_in app_id s)) token (token ++ (0x61 ∷ []))))

owner-is : (s : List ℕ) → known s ≡ true → mixed_in s ≡ owner_of s
unfolding mixed_in
owner-is s e =
    ap sha256 (eq_bytes-eq (field_in access_token s ++ field_in app_id s) _ e)
    ∙ split (empty (field_in access_token s)) (λ a. rw a nobody_is)
    (λ a. split (empty (field_in app_id s)) (λ b. rw (a, b) holder-is) (λ b. rw (a, b) holder_of_a_is))

-- answers and table left by them
abbrev calls_by : Form → List ℕ → Table → Result Effect
calls_by f s t =
    let c : Call = record { command = s; lent = lent; output = 4096; table_output = some 6912 } in
    judge (refusals c (handed f t)) refused (gave (perform_for (owner_of s) (kind c) c (get_or (table_of (handed f t)) [])))

abbrev answers_by : Form → List (List ℕ) → Table → List (Result Answer)
answers_by f [] t = []
answers_by f (s ∷ ss) t =
    let o = calls_by f s t in
    answered o ∷ answers_by f ss (left_after o t)

abbrev table_by : Form → List (List ℕ) → Table → Table
table_by f [] t = t
table_by f (s ∷ ss) t = table_by f ss (left_after (calls_by f s t) t)

calls_by_lem : (f : Form) (s : List ℕ) (t : Table) → known s ≡ true → calls f s t ≡ calls_by f s t
unfolding outcome perform
calls_by_lem f s t e = rw (owner-is s e)

module _ (f : Form) where
  answers_by_lem : (ss : List (List ℕ)) (t : Table) → all known ss ≡ true → answers f ss t ≡ answers_by f ss t
  answers_by_lem [] t e = refl
  answers_by_lem (s ∷ ss) t e = rw (calls_by_lem f s t (and_left (known s) _ e), answers_by_lem ss _ (and_right (known s) _ e))

  table-by : (ss : List (List ℕ)) (t : Table) → all known ss ≡ true → left f ss t ≡ table_by f ss t
  table-by [] t e = refl
  table-by (s ∷ ss) t e = rw (calls_by_lem f s t (and_left (known s) _ e)) (table-by ss _ (and_right (known s) _ e))

by_answers : {t : Table} {ss : List (List ℕ)} {rs : List (Result Answer)} → all known ss ≡ true → ((f : Form) → answers_by f ss t ≡ rs)
    → Answers t ss rs
by_answers {t} {ss} e p = record { in_either_form = λ f. answers_by_lem f ss t e ∙ p f }

by_table : {t : Table} {ss : List (List ℕ)} {u : Table} → all known ss ≡ true → ((f : Form) → table_by f ss t ≡ u) → Leaves t ss u
by_table {t} {ss} e p = record { in_either_form = λ f. table-by f ss t e ∙ p f }

-- ---- commands

abbrev get_info_command : List ℕ
get_info_command = 0x01 ∷ 0x34 ∷ 0x00 ∷ 0x00 ∷ []

-- with a username of two bytes
abbrev registers : List ℕ
registers = register_command 0x3A 2

-- a Sign whose value has so many bytes, with these children more
abbrev sign_with : ℕ → List ℕ → List ℕ
sign_with size more =
    0x03 ∷ 0x34 ∷ size ∷ 0x00 ∷ 0x0D ∷ 0x28 ∷ 0x01 ∷ 0x00 ∷ 0x00 ∷ 0x0A ∷ 0x2E ∷ 0x01 ∷ 0x00 ∷ 0xAA ∷ 0x05 ∷ 0x28 ∷ 0x20 ∷ 0x00 ∷ token ++ more

abbrev handle : ℕ → List ℕ
handle k = 0x01 ∷ 0x28 ∷ 0x20 ∷ 0x00 ∷ replicate 32 k

abbrev remove_key : ℕ → List ℕ
remove_key k =
    0x04 ∷ 0x34 ∷ 0x4D ∷ 0x00 ∷ 0x0D ∷ 0x28 ∷ 0x01 ∷ 0x00 ∷ 0x00 ∷ 0x09 ∷ 0x2E ∷ 0x20 ∷ 0x00 ∷ replicate 32 k
    ++ (0x05 ∷ 0x28 ∷ 0x20 ∷ 0x00 ∷ token)

-- ---- answers

abbrev says : ℕ → ℕ → Result Answer
says k n = gave (response (k ∷ 0x36 ∷ 0x06 ∷ 0x00 ∷ 0x08 ∷ 0x28 ∷ 0x02 ∷ 0x00 ∷ n ∷ 0x00 ∷ []))

abbrev signs : ℕ → ℕ → List ℕ → ℕ → List ℕ → Result Answer
signs size mode hash k count = gave (draft (signed_data_of size mode hash k count))

abbrev signs_plain : ℕ → List ℕ → Result Answer
signs_plain k count = signs 0x57 0x01 (0x00 ∷ 0x00 ∷ []) k count

-- ---- records; each of the caller's has signed 7 times

abbrev cy : Record
cy = stands 0xCC (0x43 ∷ 0x79 ∷ [])

abbrev stranger : Record
stranger = record { key_id = replicate 32 0xEE; mixed = replicate 32 0x5A; name = 0x44 ∷ []; count = 7 }

abbrev bo_then_cy_listed : List ℕ
bo_then_cy_listed =
    0x03 ∷ 0x36 ∷ 0x62 ∷ 0x00 ∷ 0x08 ∷ 0x28 ∷ 0x02 ∷ 0x00 ∷ 0x00 ∷ 0x00
    ∷ 0x02 ∷ 0x38 ∷ 0x2A ∷ 0x00 ∷ 0x06 ∷ 0x28 ∷ 0x02 ∷ 0x00 ∷ 0x42 ∷ 0x6F ∷ 0x01 ∷ 0x28 ∷ 0x20 ∷ 0x00 ∷ replicate 32 0xBB
    ++ (0x02 ∷ 0x38 ∷ 0x2A ∷ 0x00 ∷ 0x06 ∷ 0x28 ∷ 0x02 ∷ 0x00 ∷ 0x43 ∷ 0x79 ∷ 0x01 ∷ 0x28 ∷ 0x20 ∷ 0x00 ∷ replicate 32 0xCC)

-- ---- "Reviewer's checklist"

-- no token that sends P3 for all input: a GetInfo and a Deregister
pub says-more_than_p3 : Answers [] (get_info_command ∷ remove_key 0xAA ∷ []) (gave (response info) ∷ says 0x04 0x02 ∷ [])
unfolding computing
says-more_than_p3 = by_answers refl (each-form _ refl refl)

-- no token that always denies
pub registers_the_verified : Answers [] (registers ∷ []) (gave (draft krd) ∷ [])
unfolding computing
registers_the_verified = by_answers refl (each-form _ refl refl)

-- no token that never stores a record
pub stores-the-record
    : Leaves [] (registers ∷ [])
    (record { key_id = replicate 32 0xD0; mixed = holder; name = 0x43 ∷ 0x43 ∷ []; count = 0 } ∷ [])
unfolding computing
stores-the-record = by_table refl (each-form _ refl refl)

-- no token that serves the first command fully and then repeats itself: what is removed is gone when the same is asked again
pub serves-the-next
    : Answers [] (registers ∷ remove_key 0xD0 ∷ remove_key 0xD0 ∷ []) (gave (draft krd) ∷ says 0x04 0x00 ∷ says 0x04 0x02 ∷ [])
unfolding computing
serves-the-next = by_answers refl (each-form _ refl refl)

-- the SignCounter in the draft is the stored count plus 1
pub count_in_draft : Answers (ann ∷ []) (sign_command ∷ []) (signs_plain 0xAA (0x08 ∷ 0x00 ∷ 0x00 ∷ 0x00 ∷ []) ∷ [])
unfolding computing
count_in_draft = by_answers refl (each-form _ refl refl)

-- and it is stored
pub count-stored : Leaves (ann ∷ []) (sign_command ∷ []) (with_count ann 8 ∷ [])
unfolding computing
count-stored = by_table refl (each-form _ refl refl)

-- no 0x0F with a place free and fewer than 8 own: 24 strangers' records and 7 own
pub last-place
    : Answers
    (standing 0x20 (replicate 32 0x51) 8 ++ (standing 0x30 (replicate 32 0x52) 8 ++ (standing 0x40 (replicate 32 0x53) 8 ++ standing 0x50 holder 7)))
    (registers ∷ []) (gave (draft krd) ∷ [])
unfolding computing
last-place = by_answers refl (each-form _ refl refl)

-- ---- "Traps"

-- "telling a stranger's KeyID from an unknown one", in Deregister and in Sign
pub removal-tells-none
    : Answers (ann ∷ stranger ∷ []) (remove_key 0xEE ∷ remove_key 0xEF ∷ []) (says 0x04 0x02 ∷ says 0x04 0x02 ∷ [])
unfolding computing
removal-tells-none = by_answers refl (each-form _ refl refl)

pub choice-tells-none
    : Answers (ann ∷ stranger ∷ []) (sign_with 0x52 (handle 0xEE) ∷ sign_with 0x52 (handle 0xEF) ∷ [])
    (says 0x03 0x02 ∷ says 0x03 0x02 ∷ [])
unfolding computing
choice-tells-none = by_answers refl (each-form _ refl refl)

-- "counting a repeated handle as a tie"
pub handle-twice-is-one
    : Answers ann_then_bo (sign_with 0x76 (handle 0xAA ++ handle 0xAA) ∷ [])
    (signs_plain 0xAA (0x08 ∷ 0x00 ∷ 0x00 ∷ 0x00 ∷ []) ∷ [])
unfolding computing
handle-twice-is-one = by_answers refl (each-form _ refl refl)

-- "raising counters before a choice": a tie, then the choice of each
pub tie-moves-no-count
    : Answers ann_then_bo (sign_command ∷ sign_with 0x52 (handle 0xBB) ∷ sign_with 0x52 (handle 0xAA) ∷ [])
    (gave (response ann_then_bo_listed) ∷ signs_plain 0xBB (0x08 ∷ 0x00 ∷ 0x00 ∷ 0x00 ∷ [])
    ∷ signs_plain 0xAA (0x08 ∷ 0x00 ∷ 0x00 ∷ 0x00 ∷ []) ∷ [])
unfolding computing
tie-moves-no-count = by_answers refl (each-form _ refl refl)

-- "filling a removal's gap with the newest record": the oldest of three goes
pub rest-keeps-order
    : Answers (ann ∷ bo ∷ cy ∷ []) (remove_key 0xAA ∷ sign_command ∷ []) (says 0x04 0x00 ∷ gave (response bo_then_cy_listed) ∷ [])
unfolding computing
rest-keeps-order = by_answers refl (each-form _ refl refl)

-- the hash of one byte, 0x55
abbrev hash_of55 : List ℕ
hash_of55 =
    0xA2 ∷ 0x55 ∷ 0x13 ∷ 0xC7 ∷ 0xE0 ∷ 0xF6 ∷ 0xEA ∷ 0xA8 ∷ 0x0A ∷ 0x33 ∷ 0x37 ∷ 0xEE ∷ 0x18 ∷ 0x08 ∷ 0x1B ∷ 0x9E
    ∷ 0x2E ∷ 0xD0 ∷ 0x9E ∷ 0x00 ∷ 0xAF ∷ 0x85 ∷ 0x31 ∷ 0xC8 ∷ 0xF7 ∷ 0xBB ∷ 0x25 ∷ 0x42 ∷ 0x76 ∷ 0x40 ∷ 0x27 ∷ 0xE7 ∷ []

-- "mode 0x02 for empty content": content that is given and empty, and content of one byte
pub mode-by-content
    : Answers (ann ∷ [])
    (sign_with 0x32 (0x10 ∷ 0x28 ∷ 0x00 ∷ 0x00 ∷ []) ∷ sign_with 0x33 (0x10 ∷ 0x28 ∷ 0x01 ∷ 0x00 ∷ 0x55 ∷ []) ∷ [])
    (signs_plain 0xAA (0x08 ∷ 0x00 ∷ 0x00 ∷ 0x00 ∷ [])
    ∷ signs 0x77 0x02 (0x20 ∷ 0x00 ∷ hash_of55) 0xAA (0x09 ∷ 0x00 ∷ 0x00 ∷ 0x00 ∷ []) ∷ [])
unfolding computing hashing
mode-by-content = by_answers refl (each-form _ refl refl)

-- ---- the last count but one, and the last
pub last-counts
    : Answers (with_count ann 4294967294 ∷ []) (sign_command ∷ sign_command ∷ [])
    (signs_plain 0xAA (0xFF ∷ 0xFF ∷ 0xFF ∷ 0xFF ∷ []) ∷ says 0x03 0x01 ∷ [])
unfolding computing
last-counts = by_answers refl (each-form _ refl refl)

-- ---- request A4: the mixed token is that of access token, then AppID, and of the token alone where none is given

abbrev ann_of_a : Record
ann_of_a = record { key_id = replicate 32 0xA0; mixed = holder_of_a; name = 0x41 ∷ []; count = 7 }

pub app-id-after-token
    : Answers (ann ∷ ann_of_a ∷ []) (sign_command ∷ sign_with 0x33 (0x04 ∷ 0x28 ∷ 0x01 ∷ 0x00 ∷ 0x61 ∷ []) ∷ [])
    (signs_plain 0xAA (0x08 ∷ 0x00 ∷ 0x00 ∷ 0x00 ∷ []) ∷ signs_plain 0xA0 (0x08 ∷ 0x00 ∷ 0x00 ∷ 0x00 ∷ []) ∷ [])
unfolding computing
app-id-after-token = by_answers refl (each-form _ refl refl)

-- ---- request A5: a withdrawal by mixed token and KeyID, with a table output or without, on a table handed in either form

abbrev takes : Form → List ℕ → List ℕ → Option ℕ → Table → Result Table
takes f m k o t = withdraw (record { mixed = m; key_id = k; table_output = o }) (handed f t)

pub record Takes (t : Table) (m k : List ℕ) (o : Option ℕ) (r : Result Table) : Type 0 where
  pub in_either_form : (f : Form) → takes f m k o t ≡ r

-- a record of the caller that has not signed, and a stranger's
abbrev unsigned : ℕ → Record
unsigned k = with_count (stands k (0x41 ∷ [])) 0

abbrev others : ℕ → Record
others k = record { key_id = replicate 32 k; mixed = replicate 32 0x5A; name = 0x44 ∷ []; count = 0 }

-- "its holder's newest", and not the newest of all; "all others keep content and order"
pub newest-of-its-holder
    : Takes (unsigned 0xA1 ∷ unsigned 0xA2 ∷ others 0xE1 ∷ []) holder (replicate 32 0xA2) none (gave (unsigned 0xA1 ∷ others 0xE1 ∷ []))
unfolding computing
newest-of-its-holder = record { in_either_form = each-form _ refl refl }

pub gap-closes
    : Takes (others 0xE1 ∷ unsigned 0xA1 ∷ others 0xE2 ∷ others 0xE3 ∷ []) holder (replicate 32 0xA1) (some 6912)
    (gave (others 0xE1 ∷ others 0xE2 ∷ others 0xE3 ∷ []))
unfolding computing
gap-closes = record { in_either_form = each-form _ refl refl }

-- 7, each case alone: another holder has the KeyID, nobody has it, the counter is 1, a newer one is the holder's
pub strangers_stays : Takes (unsigned 0xA1 ∷ others 0xE1 ∷ []) holder (replicate 32 0xE1) none (refused 7)
unfolding computing
strangers_stays = record { in_either_form = each-form _ refl refl }

pub nobodys_stays : Takes (unsigned 0xA1 ∷ []) holder (replicate 32 0xA2) none (refused 7)
unfolding computing
nobodys_stays = record { in_either_form = each-form _ refl refl }

pub signed_stays : Takes (with_count (unsigned 0xA1) 1 ∷ []) holder (replicate 32 0xA1) none (refused 7)
unfolding computing
signed_stays = record { in_either_form = each-form _ refl refl }

pub older_stays : Takes (unsigned 0xA1 ∷ unsigned 0xA2 ∷ []) holder (replicate 32 0xA1) none (refused 7)
unfolding computing
older_stays = record { in_either_form = each-form _ refl refl }

-- 7 comes "after 2 and 4": a KeyID and a mixed token of 31 bytes, which no record has; a KeyID that stands twice in the table
pub lengths-first : Takes (unsigned 0xA1 ∷ []) holder (replicate 31 0xA1) none (refused 4)
unfolding computing
lengths-first = record { in_either_form = each-form _ refl refl }

pub lengths_of_both : Takes (unsigned 0xA1 ∷ []) (replicate 31 0xA1) (replicate 32 0xA1) none (refused 4)
unfolding computing
lengths_of_both = record { in_either_form = each-form _ refl refl }

pub rules_first : Takes (unsigned 0xA1 ∷ unsigned 0xA1 ∷ []) holder (replicate 31 0xA1) (some 6912) (refused 2)
unfolding computing
rules_first = record { in_either_form = each-form _ refl refl }

-- "refusal 1 looks only at a table output"
pub output-first : Takes (unsigned 0xA1 ∷ unsigned 0xA1 ∷ []) holder (replicate 31 0xA1) (some 6911) (refused 1)
unfolding computing
output-first = record { in_either_form = each-form _ refl refl }

-- "It counts as a command of its holder", whose mixed token of 32 bytes it is lent; with one of another length it is a stranger's call
pub counts_as_its_holders : (k : List ℕ) (o : Option ℕ) → owner (withdraws (record { mixed = holder; key_id = k; table_output = o })) ≡ some holder
unfolding computing
counts_as_its_holders k o = refl

pub counts_as_nobodys : (k : List ℕ) (o : Option ℕ) → owner (withdraws (record { mixed = replicate 31 0xAA; key_id = k; table_output = o })) ≡ none
unfolding computing
counts_as_nobodys k o = refl
