-- Document 01, "TLV bytes".
use Rattle.std.specs.Prelude.{ℕ, zero, suc, ◌+◌, ◌*◌, ◌/◌, ◌%◌, ◌<◌, Bool, true, false, not, cond, ◌&&◌, ◌||◌, List, [], ◌∷◌, ◌++◌, map, length, take, drop, get_or, leb, ltb, eqb}
use Rattle.std.proofs.Math.Option
use Rattle.std.proofs.Math.Option.{Option, none, some}
use Rattle.model.specs.Lists.{all, select, first, empty, eq_bytes, among}
use Rattle.model.specs.Utf8.{utf8}

-- what a stretch of a caller's bytes is
abbrev pub Bytes : List ℕ → Type 0
Bytes [] = Unit {0}
Bytes (b ∷ s) = (b < 256) × Bytes s

-- "little-endian", at every width: the number that bytes spell, and the w lowest bytes of a number
unfoldable pub num : List ℕ → ℕ
num [] = 0
num (b ∷ s) = b + 256 * num s

unfoldable pub le : ℕ → ℕ → List ℕ
le zero n = []
le (suc w) n = n % 256 ∷ le w (n / 256)

-- "A TLV is a 16-bit tag, a 16-bit length of the value in bytes, then the value"
pub record Tlv : Type 0 where
  pub tag : ℕ
  pub value : List ℕ

abbrev pub tlv : ℕ → List ℕ → Tlv
tlv t v = record { tag = t; value = v }

abbrev pub header : ℕ → ℕ → List ℕ
header t n = le 2 t ++ le 2 n

-- a run of TLVs written as bytes
unfoldable pub bytes : List Tlv → List ℕ
bytes [] = []
bytes (t ∷ ts) = header t.tag (length t.value) ++ (t.value ++ bytes ts)

-- the run of TLVs that follows after k bytes and ends with the stretch, if there is one; a value, once taken, is passed over as k bytes
unfoldable pub tlvs_past : ℕ → List ℕ → Option (List Tlv)
tlvs_past zero [] = some []
tlvs_past zero (a ∷ []) = none
tlvs_past zero (a ∷ b ∷ []) = none
tlvs_past zero (a ∷ b ∷ c ∷ []) = none
tlvs_past zero (a ∷ b ∷ c ∷ d ∷ s) =
    let n = num (c ∷ d ∷ []) in
    Option.map (λ ts. tlv (num (a ∷ b ∷ [])) (take n s) ∷ ts) (tlvs_past n s)
tlvs_past (suc k) [] = none
tlvs_past (suc k) (b ∷ s) = tlvs_past k s

-- the TLVs of which a stretch "is exactly a run"; a test of such a run, which fails where there is none
abbrev pub tlvs : List ℕ → Option (List Tlv)
tlvs s = tlvs_past 0 s

abbrev pub is_run : (List Tlv → Bool) → Option (List Tlv) → Bool
is_run p ts = Option.get_or (Option.map p ts) false

-- "Bit 0x1000 marks a composite tag .. Bit 0x2000 marks a critical tag"
abbrev pub composite : ℕ → Bool
composite t = eqb (t / 0x1000 % 2) 1

abbrev pub critical : ℕ → Bool
critical t = eqb (t / 0x2000 % 2) 1

-- a run that goes at most n levels deep: "walked as its own stretch, level by level"
unfoldable pub well_formed : ℕ → List ℕ → Bool
well_formed zero s = empty s
well_formed (suc n) s = is_run (all (λ t. cond (composite t.tag) (well_formed n t.value) true)) (tlvs s)

-- "The command itself is level 1, and level 8 is the deepest": a child is at level 2, so what it holds goes at most 6 levels on
abbrev pub levels_in_child : ℕ
levels_in_child = 6

-- of a child that a command doesn't list: "refused if critical, else skipped, but a skipped composite must still be well formed"
abbrev pub skippable : Tlv → Bool
skippable c = not (critical c.tag) && cond (composite c.tag) (well_formed levels_in_child c.value) true

-- "A command is at most 8,192 bytes"
abbrev pub max_command : ℕ
max_command = 8192

-- "its TLV ends with the lent bytes"
abbrev pub fills : List ℕ → Bool
fills s = eqb (4 + num (take 2 (drop 2 s))) (length s)

-- ---- the five commands, and the tags; a field's tag stands with its rule, below

pub data Kind : Type 0 where
  get_info register sign deregister open_settings : Kind

abbrev pub kinds : List Kind
kinds = get_info ∷ register ∷ sign ∷ deregister ∷ open_settings ∷ []

-- "GETINFO 0x3401/0x3601, REGISTER 0x3402/0x3602, SIGN 0x3403/0x3603, DEREGISTER 0x3404/0x3604, OPEN_SETTINGS 0x3406/0x3606"
abbrev pub command_tag : Kind → ℕ
command_tag get_info = 0x3401
command_tag register = 0x3402
command_tag sign = 0x3403
command_tag deregister = 0x3404
command_tag open_settings = 0x3406

abbrev pub response_tag : Kind → ℕ
response_tag get_info = 0x3601
response_tag register = 0x3602
response_tag sign = 0x3603
response_tag deregister = 0x3604
response_tag open_settings = 0x3606

-- "AUTHENTICATOR_ASSERTION 0x280F, .. USERNAME_AND_KEYHANDLE 0x3802, AUTHENTICATOR_INFO 0x3811"
abbrev pub assertion_tag : ℕ
assertion_tag = 0x280F

abbrev pub pair_tag : ℕ
pair_tag = 0x3802

abbrev pub info_tag : ℕ
info_tag = 0x3811

-- "REG_ASSERTION 0x3E01, AUTH_ASSERTION 0x3E02, KRD 0x3E03, SIGNED_DATA 0x3E04"
abbrev pub reg_assertion_tag : ℕ
reg_assertion_tag = 0x3E01

abbrev pub auth_assertion_tag : ℕ
auth_assertion_tag = 0x3E02

abbrev pub krd_tag : ℕ
krd_tag = 0x3E03

abbrev pub signed_tag : ℕ
signed_tag = 0x3E04

-- "BASIC_FULL 0x3E07, BASIC_SURROGATE 0x3E08", which are the two attestation types
abbrev pub full : ℕ
full = 0x3E07

abbrev pub surrogate : ℕ
surrogate = 0x3E08

-- the command that the outer tag names; "fewer than 4 bytes or an outer tag that is none of the five" name none
abbrev pub is_command : List ℕ → Kind → Bool
is_command s k = leb 4 (length s) && eqb (num (take 2 s)) (command_tag k)

unfoldable pub kind_of : List ℕ → Option Kind
kind_of s = first (select (is_command s) kinds)

-- ---- the fields, one table for all: a tag, the least and the greatest length of the value, and what else is asked of it

pub record Rule : Type 0 where
  pub tag : ℕ
  pub least : ℕ
  pub most : ℕ
  pub allowed : List ℕ → Bool

abbrev pub rule : ℕ → ℕ → ℕ → (List ℕ → Bool) → Rule
rule t m n p = record { tag = t; least = m; most = n; allowed = p }

-- any value between two lengths; this value alone
abbrev pub sized : ℕ → ℕ → ℕ → Rule
sized t m n = rule t m n (λ v. true)

abbrev pub exactly : ℕ → List ℕ → Rule
exactly t v = rule t (length v) (length v) (eq_bytes v)

-- in commands; in records; lent; in responses and drafts
pub data Field : Type 0 where
  index app_id challenge_hash username attestation_type access_token key_handle key_id_or_none : Field
  user_verify_token transaction_content : Field
  key_id mixed_token counter : Field
  aaid metadata public_key nonce : Field
  api_version content_type assertion_scheme full_type surrogate_type no_counts new_count signature certificate : Field
  status_among : List ℕ → Field
  assertion_info : ℕ → ℕ → Field
  content_hash : Bool → Field

-- the letters of text/plain and of UAFV1TLV
abbrev pub text_plain : List ℕ
text_plain = 0x74 ∷ 0x65 ∷ 0x78 ∷ 0x74 ∷ 0x2F ∷ 0x70 ∷ 0x6C ∷ 0x61 ∷ 0x69 ∷ 0x6E ∷ []

abbrev pub uaf_v1_tlv : List ℕ
uaf_v1_tlv = 0x55 ∷ 0x41 ∷ 0x46 ∷ 0x56 ∷ 0x31 ∷ 0x54 ∷ 0x4C ∷ 0x56 ∷ []

abbrev pub rule_of : Field → Rule
rule_of index = exactly 0x280D (0 ∷ [])
rule_of app_id = sized 0x2804 1 512
rule_of challenge_hash = sized 0x2E0A 1 32
-- A1: "A username must now be well-formed UTF-8 by RFC 3629, still 1 to 128 bytes"
rule_of username = rule 0x2806 1 128 utf8
rule_of attestation_type = sized 0x2807 2 2
-- A4: "An access token must now be 32 bytes, else 0x08"
rule_of access_token = sized 0x2805 32 32
rule_of key_handle = sized 0x2801 32 32
rule_of key_id_or_none = rule 0x2E09 0 32 (λ v. eqb (length v) 0 || eqb (length v) 32)
rule_of user_verify_token = sized 0x2803 0 max_command
rule_of transaction_content = sized 0x2810 0 max_command
rule_of key_id = sized 0x2E09 32 32
rule_of mixed_token = sized 0x2805 32 32
rule_of counter = sized 0x2E0D 4 4
rule_of aaid = sized 0x2E0B 9 9
rule_of metadata = sized 0x2809 15 15
rule_of public_key = sized 0x2E0C 1 512
rule_of nonce = sized 0x2E0F 8 32
rule_of api_version = exactly 0x280E (1 ∷ [])
rule_of content_type = exactly 0x280C text_plain
rule_of assertion_scheme = exactly 0x280A uaf_v1_tlv
rule_of full_type = exactly 0x2807 (le 2 full)
rule_of surrogate_type = exactly 0x2807 (le 2 surrogate)
rule_of no_counts = exactly 0x2E0D (le 4 0 ++ le 4 0)
rule_of new_count = rule 0x2E0D 4 4 (λ v. ltb 0 (num v))
rule_of signature = sized 0x2E06 1 512
rule_of certificate = sized 0x2E05 1 2048
rule_of (status_among ns) = rule 0x2808 2 2 (λ v. among v (map (le 2) ns))
rule_of (assertion_info size mode) = rule 0x2E0E size size (λ v. eqb (get_or v 2 0) mode)
rule_of (content_hash given) = cond given (sized 0x2E10 32 32) (sized 0x2E10 0 0)

-- status OK, beside other fields
abbrev pub ok : Field
ok = status_among (0x00 ∷ [])

abbrev pub tag_of : Field → ℕ
tag_of f = (rule_of f).tag

-- a value obeys its field's rule
unfoldable pub fits : Field → List ℕ → Bool
fits f v = leb (rule_of f).least (length v) && leb (length v) (rule_of f).most && (rule_of f).allowed v

-- ---- the children that each command lists

-- a listed child: its field, and how often it must and may be given: "at most once, KEYHANDLE excepted"
pub record Listed : Type 0 where
  pub field : Field
  pub least : ℕ
  pub most : ℕ

abbrev pub mandatory : Field → Listed
mandatory f = record { field = f; least = 1; most = 1 }

abbrev pub up_to : ℕ → Field → Listed
up_to n f = record { field = f; least = 0; most = n }

abbrev pub optional : Field → Listed
optional f = up_to 1 f

-- in the order of 001's tables, in which Writer writes them
abbrev pub fields_of : Kind → List Listed
fields_of get_info = []
fields_of register =
    mandatory index ∷ optional app_id ∷ mandatory challenge_hash ∷ mandatory username ∷ mandatory attestation_type
    ∷ mandatory access_token ∷ optional user_verify_token ∷ []
fields_of sign =
    mandatory index ∷ optional app_id ∷ mandatory challenge_hash ∷ optional transaction_content ∷ mandatory access_token
    ∷ optional user_verify_token ∷ up_to 8 key_handle ∷ []
fields_of deregister = mandatory index ∷ optional app_id ∷ mandatory key_id_or_none ∷ mandatory access_token ∷ []
fields_of open_settings = mandatory index ∷ []

-- the listed child with this tag, if the command lists one
abbrev pub listed : List Listed → ℕ → Option Listed
listed fs t = first (select (λ f. eqb (tag_of f.field) t) fs)

-- a child obeys its field's rule if it is listed, else it is skippable
abbrev pub child_ok : Tlv → Option Listed → Bool
child_ok c none = skippable c
child_ok c (some f) = fits f.field c.value

-- the values of the children with a field's tag, in their order
abbrev pub values_of : Field → List Tlv → List (List ℕ)
values_of f ts = map (λ c. c.value) (select (λ c. eqb c.tag (tag_of f)) ts)

-- so many are no fewer than must be given, and no more than may be
abbrev pub times_allowed : Listed → ℕ → Bool
times_allowed f n = leb f.least n && leb n f.most

abbrev pub times_ok : List Tlv → Listed → Bool
times_ok ts f = times_allowed f (length (values_of f.field ts))

-- each child is allowed, and each listed one is given as often as it must and may be
unfoldable pub children_ok : List Listed → List Tlv → Bool
children_ok fs ts = all (λ c. child_ok c (listed fs c.tag)) ts && all (times_ok ts) fs

-- a command's children, after its four header bytes, if its TLV ends with the lent bytes and its value is a run
unfoldable pub children : List ℕ → Option (List Tlv)
children s = cond (fills s) (tlvs (drop 4 s)) none

-- "a rule under TLV bytes is broken"
unfoldable pub broken : Kind → List ℕ → Bool
broken k s = not (leb (length s) max_command && is_run (children_ok (fields_of k)) (children s))

-- the fields of a command that breaks none; the first of a kind is empty where none is given
unfoldable pub fields_in : Field → List ℕ → List (List ℕ)
fields_in f s = values_of f (Option.get_or (children s) [])

unfoldable pub field_in : Field → List ℕ → List ℕ
field_in f s = get_or (fields_in f s) 0 []
