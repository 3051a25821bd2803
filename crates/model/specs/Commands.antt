-- Document 01, "Commands": what is lent, what "Calls first check", what a command answers and changes, the five commands, and what a call gives.
use Rattle.std.specs.Prelude.{ℕ, zero, suc, Bool, true, not, cond, ◌&&◌, ◌||◌, List, [], ◌∷◌, ◌++◌, map, length, drop, get_or, leb, ltb, eqb}
use Rattle.std.proofs.Math.Option
use Rattle.std.proofs.Math.Option.{Option, none, some}
use Rattle.model.specs.Lists.{select, empty, given, eq_bytes, among}
use Rattle.model.specs.Sha256.{sha256}
use Rattle.model.specs.Tlv.{num, le, fits, index, app_id, challenge_hash, username, attestation_type, access_token, key_handle, key_id, key_id_or_none, transaction_content, aaid, metadata, public_key, nonce, status_among, ok, api_version, content_type, assertion_scheme, full_type, surrogate_type, no_counts, new_count, assertion_info, content_hash, full, surrogate, text_plain, uaf_v1_tlv, Kind, get_info, register, sign, deregister, open_settings, kind_of, broken, fields_in, field_in, response_tag, pair_tag, info_tag, krd_tag, signed_tag}
use Rattle.model.specs.Layouts.{Layout, end, field, group, fields, write}
use Rattle.model.specs.Records.{Record, Table, max_count, max_records, max_own, max_stored, own, key_ids, has_mixed, table_ok, encode, decode}

-- "The profile is lent" ("Records", last paragraph): aaid to metadata; keys, fingerprint and display "lend their results": the rest. Hashing does not:
-- see `mixed_in` and `transaction_hash`
pub record Lent : Type 0 where
  pub aaid : List ℕ
  pub version : ℕ
  pub signature_algorithm : ℕ
  pub key_algorithm : ℕ
  pub metadata : List ℕ
  pub verdict : ℕ
  pub display : ℕ
  pub key_id : List ℕ
  pub public_key : List ℕ
  pub nonce : List ℕ

-- a call: the command, what is lent, the response output's length and, "where a stored table is written", the length of its own output
pub record Call : Type 0 where
  pub command : List ℕ
  pub lent : Lent
  pub output : ℕ
  pub table_output : Option ℕ

-- A4: "The token works out the mixed token and the transaction hash". The caller's mixed token is the hash of access token and AppID, which "run
-- together without a mark"; "A missing AppID adds no bytes"
unfoldable pub mixed_in : List ℕ → List ℕ
mixed_in s = sha256 (field_in access_token s ++ field_in app_id s)

abbrev pub mixed_of : Call → List ℕ
mixed_of c = mixed_in c.command

-- ---- the first check that fails answers with its number

pub record Check : Type 0 where
  pub says : ℕ
  pub fails : Bool

abbrev pub check : ℕ → Bool → Check
check n b = record { says = n; fails = b }

-- says: what becomes of the number; passed: what there is if no check fails
unfoldable pub judge : {A : Type 0} → List Check → (ℕ → A) → A → A
judge [] says passed = passed
judge (c ∷ cs) says passed = cond c.fails (says c.says) (judge cs says passed)

-- one refusal, or a result
pub data Result (A : Type 0) : Type 0 where
  refused : ℕ → Result A
  gave : A → Result A

-- the same refusal, or f of the result
abbrev pub on_gave : {A B : Type 0} → (A → B) → Result A → Result B
on_gave f (refused n) = refused n
on_gave f (gave x) = gave (f x)

-- ---- "Calls first check"

-- "1, response output shorter than 4,096 or, where a stored table is written, its own output shorter than 6,912"
abbrev pub least_output : ℕ
least_output = 4096

-- without a table output none is too short
abbrev pub short_table : Option ℕ → Bool
short_table table = ltb (Option.get_or table max_stored) max_stored

abbrev pub short_output : ℕ → Option ℕ → Bool
short_output n table = ltb n least_output || short_table table

-- a call is given the table itself or its stored form; none if "the table or its stored form breaks a rule"
pub data Given : Type 0 where
  value : Table → Given
  stored : List ℕ → Given

unfoldable pub table_of : Given → Option Table
table_of (value t) = cond (table_ok t) (some t) none
table_of (stored s) = decode s

-- the command's kind, which there is past check 3
abbrev pub kind : Call → Kind
kind c = Option.get_or (kind_of c.command) get_info

-- "a lent result that this command uses has a wrong length or number"
unfoldable pub profile_ok : Lent → Bool
profile_ok l =
    fits aaid l.aaid && fits metadata l.metadata && ltb l.version 65536 && ltb l.signature_algorithm 65536
    && ltb l.key_algorithm 65536

-- the verdict is 0 to 5, the display result 0 to 3; Deregister and Open settings use nothing that is lent
unfoldable pub lent_ok : Kind → Lent → Bool
lent_ok get_info l = profile_ok l
lent_ok register l =
    profile_ok l && leb l.verdict 5 && fits key_id l.key_id && fits public_key l.public_key
lent_ok sign l = profile_ok l && leb l.verdict 5 && leb l.display 3 && fits nonce l.nonce
lent_ok deregister l = true
lent_ok open_settings l = true

unfoldable pub refusals : Call → Given → List Check
refusals c g =
    check 1 (short_output c.output c.table_output)
    ∷ check 2 (not (given (table_of g)))
    ∷ check 3 (not (given (kind_of c.command)))
    ∷ check 4 (not (lent_ok (kind c) c.lent))
    ∷ []

-- ---- what a command answers, and what it changes in the table

pub data Answer : Type 0 where
  response : List ℕ → Answer
  draft : List ℕ → Answer

-- a change is of the caller's own records only
pub data Change : Type 0 where
  keep : Change
  add : (key_id name : List ℕ) → Change
  set_count : (key_id : List ℕ) → ℕ → Change
  remove : (key_id : List ℕ) → Change
  remove_all : Change

-- mixed token m's record with KeyID k
abbrev pub is_key : List ℕ → List ℕ → Record → Bool
is_key m k r = has_mixed m r && eq_bytes r.key_id k

abbrev pub with_count : Record → ℕ → Record
with_count r n = record { key_id = r.key_id; mixed = r.mixed; name = r.name; count = n }

-- "appended with counter 0"; "Removal closes the gap"
unfoldable pub apply : List ℕ → Change → Table → Table
apply m keep t = t
apply m (add k n) t = t ++ (record { key_id = k; mixed = m; name = n; count = 0 } ∷ [])
apply m (set_count k n) t = map (λ r. cond (is_key m k r) (with_count r n) r) t
apply m (remove k) t = select (λ r. not (is_key m k r)) t
apply m remove_all t = select (λ r. not (has_mixed m r)) t

pub record Decision : Type 0 where
  pub answer : Answer
  pub change : Change

-- "holds STATUS_CODE (2 bytes) only": the statuses that each command can give so
abbrev pub statuses : Kind → List ℕ
statuses get_info = 0x08 ∷ []
statuses register = 0x01 ∷ 0x02 ∷ 0x03 ∷ 0x05 ∷ 0x07 ∷ 0x08 ∷ 0x0E ∷ 0x0F ∷ 0x10 ∷ []
statuses sign = 0x01 ∷ 0x02 ∷ 0x03 ∷ 0x04 ∷ 0x05 ∷ 0x08 ∷ 0x0E ∷ 0x10 ∷ []
statuses deregister = 0x00 ∷ 0x02 ∷ 0x08 ∷ []
statuses open_settings = 0x06 ∷ 0x08 ∷ []

abbrev pub status_only : Kind → Layout
status_only k = group (response_tag k) (field (status_among (statuses k)) end) end

-- a status alone, with this change
unfoldable pub only : Kind → Change → ℕ → Decision
only k c n = record { answer = response (write (status_only k) (le 2 n ∷ [])); change = c }

-- ---- GetInfo: "STATUS_CODE OK 0x00, API_VERSION (1 byte) 1, AUTHENTICATOR_INFO with index, AAID, METADATA, content type text/plain,
-- the eight letters UAFV1TLV as ASSERTION_SCHEME, then one ATTESTATION_TYPE each for 0x3E07 and 0x3E08, in this order"

-- in AUTHENTICATOR_INFO, and the whole
abbrev pub info_inner : Layout
info_inner = fields (index ∷ aaid ∷ metadata ∷ content_type ∷ assertion_scheme ∷ full_type ∷ surrogate_type ∷ [])

abbrev pub info : Layout
info = group (response_tag get_info) (field ok (field api_version (group info_tag info_inner end))) end

-- their values
abbrev pub info_inner_fields : (aaid metadata : List ℕ) → List (List ℕ)
info_inner_fields a m = (0 ∷ []) ∷ a ∷ m ∷ text_plain ∷ uaf_v1_tlv ∷ le 2 full ∷ le 2 surrogate ∷ []

abbrev pub info_fields : Lent → List (List ℕ)
info_fields l = le 2 0 ∷ (1 ∷ []) ∷ info_inner_fields l.aaid l.metadata

unfoldable pub info_response : Lent → List ℕ
info_response l = write info (info_fields l)

unfoldable pub decide_get_info : List ℕ → Lent → Decision
decide_get_info s l =
    judge (check 0x08 (broken get_info s) ∷ []) (only get_info keep)
    (record { answer = response (info_response l); change = keep })

-- ---- Register

-- "1 ACCESS_DENIED 0x02, 2 USER_NOT_ENROLLED 0x03, 3 USER_CANCELLED 0x05, 4 USER_NOT_RESPONSIVE 0x0E, 5 USER_LOCKOUT 0x10"
abbrev pub verdict_statuses : List ℕ
verdict_statuses = 0x02 ∷ 0x03 ∷ 0x05 ∷ 0x0E ∷ 0x10 ∷ []

abbrev pub verdict_status : ℕ → ℕ
verdict_status v = get_or (0x00 ∷ verdict_statuses) v 0x00

-- "0x08; then the verdict": Register's first checks, and Sign's
abbrev pub user_checks : Bool → ℕ → List Check
user_checks breaks verdict = check 0x08 breaks ∷ check (verdict_status verdict) (not (eqb verdict 0)) ∷ []

-- "0x07 if the type is neither of the two; ERR_UNKNOWN 0x01 if the KeyID is stored; INSUFFICIENT_RESOURCES 0x0F at 8 own records or 32 in
-- all"; mine: the caller's records; taken: the KeyID is stored, by anybody; filled: there are 32 records in all
unfoldable pub register_checks : List ℕ → Lent → Table → Bool → Bool → List Check
register_checks s l mine taken filled =
    let type = num (field_in attestation_type s) in
    user_checks (broken register s) l.verdict
    ++ (check 0x07 (not (eqb type full || eqb type surrogate))
    ∷ check 0x01 taken
    ∷ check 0x0F (leb max_own (length mine) || filled)
    ∷ [])

-- "KRD: AAID, ASSERTION_INFO (version, mode 0x01, both algorithms; 7 bytes), challenge hash, KEYID, COUNTERS (SignCounter 0,
-- RegCounter 0; 4 bytes each), PUB_KEY"
abbrev pub key_registration_data : Layout → Layout
key_registration_data rest =
    group krd_tag (fields (aaid ∷ assertion_info 7 0x01 ∷ challenge_hash ∷ key_id ∷ no_counts ∷ public_key ∷ [])) rest

abbrev pub register_fields : List ℕ → Lent → List (List ℕ)
register_fields s l =
    l.aaid ∷ (le 2 l.version ++ (0x01 ∷ le 2 l.signature_algorithm ++ le 2 l.key_algorithm)) ∷ field_in challenge_hash s
    ∷ l.key_id ∷ (le 4 0 ++ le 4 0) ∷ l.public_key ∷ []

unfoldable pub register_draft : List ℕ → Lent → List ℕ
register_draft s l = write (key_registration_data end) (register_fields s l)

unfoldable pub decide_register : List ℕ → Lent → Table → Bool → Bool → Decision
decide_register s l mine taken filled =
    judge (register_checks s l mine taken filled) (only register keep)
    (record { answer = draft (register_draft s l); change = add l.key_id (field_in username s) })

-- ---- Sign

-- "Chosen are records with the lent mixed token", now the caller's, "and, if key handles are given, a KeyID among them"
unfoldable pub chosen : List (List ℕ) → Table → Table
chosen handles mine = select (λ r. empty handles || among r.key_id handles) mine

-- "Several: OK with a USERNAME_AND_KEYHANDLE (USERNAME, KEYHANDLE) for each, oldest first"
abbrev pub pair_fields : Layout
pair_fields = fields (username ∷ key_handle ∷ [])

abbrev pub name_pairs : ℕ → Layout
name_pairs zero = end
name_pairs (suc n) = group pair_tag pair_fields (name_pairs n)

abbrev pub name_list : ℕ → Layout
name_list n = group (response_tag sign) (field ok (name_pairs n)) end

abbrev pub name_fields : Table → List (List ℕ)
name_fields [] = []
name_fields (r ∷ rs) = r.name ∷ r.key_id ∷ name_fields rs

unfoldable pub name_response : Table → List ℕ
name_response rs = write (name_list (length rs)) (le 2 0 ∷ name_fields rs)

-- "SIGNED_DATA: AAID, ASSERTION_INFO (version, mode, signature algorithm; 5 bytes), NONCE, challenge hash, TRANSACTION_CONTENT_HASH,
-- KEYID, COUNTERS (new count). Mode is 0x02 with content, else 0x01 and a hash of length 0"
abbrev pub signed_data : Bool → Layout → Layout
signed_data content rest =
    group signed_tag
    (fields
    (aaid ∷ assertion_info 5 (cond content 0x02 0x01) ∷ nonce ∷ challenge_hash ∷ content_hash content ∷ key_id ∷ new_count ∷ []))
    rest

unfoldable pub has_content : List ℕ → Bool
has_content s = not (empty (field_in transaction_content s))

-- A4: "the transaction hash, that of the content"; an empty one is not hashed
unfoldable pub transaction_hash : List ℕ → List ℕ
transaction_hash s = cond (has_content s) (sha256 (field_in transaction_content s)) []

abbrev pub sign_fields : Bool → (hash : List ℕ) → List ℕ → Lent → Record → List (List ℕ)
sign_fields content hash s l r =
    l.aaid ∷ (le 2 l.version ++ (cond content 0x02 0x01 ∷ le 2 l.signature_algorithm)) ∷ l.nonce ∷ field_in challenge_hash s
    ∷ hash ∷ r.key_id ∷ le 4 (suc r.count) ∷ []

-- the draft with this transaction hash, and with the command's own
abbrev pub sign_draft_of : (hash : List ℕ) → List ℕ → Lent → Record → List ℕ
sign_draft_of hash s l r = write (signed_data (has_content s) end) (sign_fields (has_content s) hash s l r)

unfoldable pub sign_draft : List ℕ → Lent → Record → List ℕ
sign_draft s l r = sign_draft_of (transaction_hash s) s l r

-- "1 0x05, 2 CANNOT_RENDER_TRANSACTION_CONTENT 0x04, 3 0x0E"
abbrev pub display_statuses : List ℕ
display_statuses = 0x05 ∷ 0x04 ∷ 0x0E ∷ []

abbrev pub display_status : ℕ → ℕ
display_status d = get_or (0x00 ∷ display_statuses) d 0x00

-- "One: with non-empty transaction content the display result ..; then 0x01 if the counter is 4,294,967,295. Else the counter rises by 1"
abbrev pub one_checks : Bool → ℕ → ℕ → List Check
one_checks content display count =
    check (display_status display) (content && not (eqb display 0)) ∷ check 0x01 (eqb count max_count) ∷ []

unfoldable pub sign_one : List ℕ → Lent → Record → Decision
sign_one s l r =
    judge (one_checks (has_content s) l.display r.count) (only sign keep)
    (record { answer = draft (sign_draft s l r); change = set_count r.key_id (suc r.count) })

-- "None: 0x02. Several: OK with .., no counter moved"
unfoldable pub sign_chosen : List ℕ → Lent → Table → Decision
sign_chosen s l [] = only sign keep 0x02
sign_chosen s l (r ∷ []) = sign_one s l r
sign_chosen s l (r ∷ q ∷ rs) = record { answer = response (name_response (r ∷ q ∷ rs)); change = keep }

unfoldable pub decide_sign : List ℕ → Lent → Table → Decision
decide_sign s l mine =
    judge (user_checks (broken sign s) l.verdict) (only sign keep)
    (sign_chosen s l (chosen (fields_in key_handle s) mine))

-- ---- Deregister: "An empty KeyID removes all records of the mixed token and is OK even for none. Else the record with that KeyID and
-- mixed token goes; if there is none, 0x02"

abbrev pub deregister_checks : List ℕ → Table → List Check
deregister_checks s mine =
    let k = field_in key_id_or_none s in
    check 0x08 (broken deregister s) ∷ check 0x02 (not (empty k || among k (key_ids mine))) ∷ []

unfoldable pub decide_deregister : List ℕ → Table → Decision
decide_deregister s mine =
    let k = field_in key_id_or_none s in
    judge (deregister_checks s mine) (only deregister keep) (only deregister (cond (empty k) remove_all (remove k)) 0x00)

-- ---- Open settings: "0x08, else CMD_NOT_SUPPORTED 0x06"

unfoldable pub decide_open_settings : List ℕ → Decision
decide_open_settings s = judge (check 0x08 (broken open_settings s) ∷ []) (only open_settings keep) (only open_settings keep 0x06)

-- ---- every call

-- a command is decided from the caller's own records and, for Register, two facts about the rest
unfoldable pub decide : Kind → List ℕ → Lent → Table → Bool → Bool → Decision
decide get_info s l mine taken filled = decide_get_info s l
decide register s l mine taken filled = decide_register s l mine taken filled
decide sign s l mine taken filled = decide_sign s l mine
decide deregister s l mine taken filled = decide_deregister s mine
decide open_settings s l mine taken filled = decide_open_settings s

-- what is written into the response output, and the table left
pub record Effect : Type 0 where
  pub answer : Answer
  pub left : Table

-- a command decided from the records of mixed token m, and its change made; m is the caller's
abbrev pub perform_for : List ℕ → Kind → Call → Table → Effect
perform_for m k c t =
    let d = decide k c.command c.lent (own m t) (among c.lent.key_id (key_ids t)) (leb max_records (length t)) in
    record { answer = d.answer; left = apply m d.change t }

unfoldable pub perform : Kind → Call → Table → Effect
perform k c t = perform_for (mixed_of c) k c t

-- what a call gives; past the checks there is a table
unfoldable pub outcome : Call → Given → Result Effect
outcome c g = judge (refusals c g) refused (gave (perform (kind c) c (Option.get_or (table_of g) [])))

-- ---- the outputs of a call

abbrev pub bytes_of : Answer → List ℕ
bytes_of (response s) = s
bytes_of (draft s) = s

-- an output into which s was written: "bytes beyond them are unchanged"
abbrev pub over : List ℕ → List ℕ → List ℕ
over s out = s ++ drop (length s) out

-- the response output and the table output, if there is one, after a call: "A table output gets the stored form of the table left"
pub record Outputs : Type 0 where
  pub response : List ℕ
  pub table : Option (List ℕ)

unfoldable pub outputs : Result Effect → Outputs → Outputs
outputs (refused n) o = o
outputs (gave e) o =
    record { response = over (bytes_of e.answer) o.response; table = Option.map (over (encode e.left)) o.table }
