-- The numbers of document 01, "TLV bytes" and "Commands": tables of commands and calls at each limit and one beyond it, computed. Tags, lengths
-- and numbers are written out, as document 01 has them. LimitsRead has the tables of completion, reader and stored form.
-- Assumes nothing.
use mathlib.Core.Path.{◌≡◌, refl}
use mathlib.Core.Bool.{Bool, true, not, cond}
use mathlib.Core.List.{List, [], ◌∷◌, ◌++◌, map, reverse}
use mathlib.Core.Option.{Option, none, some}
use Prim.Native.Nat.{ℕ, ◌+◌}
use lib.ListN.{length, take, get_or, replicate}
use lib.Dec.{eqb}
use Rattle.model.specs.Lists.{all, select, eq_bytes}
use Rattle.model.specs.Tlv.{Tlv, tlv, header, bytes}
use Rattle.model.specs.Records.{Table}
use Rattle.model.specs.Commands.{Lent, Result, refused, gave, Answer, response, draft, outcome}
use Rattle.model.specs.Traces.{Form, itself, in_stored_form, handed}
use Rattle.model.proofs.Basics.{and_left, and_right, eq_bytes-eq}
use Rattle.model.proofs.Computing.{computing, answered, hashing, each-form, token, lent, stands}
use Rattle.model.proofs.Witness.{zeros, lending}

-- a line of a table: what is computed, and what document 01 says
pub record Line : Type 0 where
  pub found : List ℕ
  pub expected : List ℕ

infix 70 ◌gives◌
abbrev pub ◌gives◌ : List ℕ → List ℕ → Line
◌gives◌ a b = record { found = a; expected = b }

abbrev pub Holds : List Line → Type 0
Holds lines = map (λ r. r.found) lines ≡ map (λ r. r.expected) lines

-- one test of all lines is computed in a quarter of the time that it takes to compare the two lists
abbrev pub agree : List Line → Bool
agree lines = all (λ r. eq_bytes r.found r.expected) lines

pub holds : (lines : List Line) → agree lines ≡ true → Holds lines
holds [] e = refl
holds (r ∷ lines) e =
    let p : r.found ≡ r.expected = eq_bytes-eq r.found r.expected (and_left _ (agree lines) e) in
    let q : Holds lines = holds lines (and_right (eq_bytes r.found r.expected) (agree lines) e) in
    cc

-- what a call tells: 100 + n for refusal n, 200 for a draft, 300 for a response that holds more than a status, else the status
abbrev told : Result Answer → ℕ
told (refused n) = 100 + n
told (gave (draft s)) = 200
told (gave (response s)) = cond (eqb (length s) 10) (get_or s 8 0) 300

abbrev pub call : Form → ℕ → Option ℕ → Table → Lent → List ℕ → ℕ
call f n m t l s = told (answered (outcome (record { command = s; lent = l; output = n; table_output = m }) (handed f t)))

-- the hash of the access token and of an AppID of one byte, 0
abbrev with_app_id : List ℕ
with_app_id =
    0x3A ∷ 0x0C ∷ 0x20 ∷ 0x90 ∷ 0x7B ∷ 0x44 ∷ 0x9C ∷ 0x23 ∷ 0xB0 ∷ 0xA1 ∷ 0x6D ∷ 0x9A ∷ 0x29 ∷ 0x7E ∷ 0xA5 ∷ 0x2F
    ∷ 0xAF ∷ 0x20 ∷ 0x6B ∷ 0xDE ∷ 0x0C ∷ 0x98 ∷ 0x21 ∷ 0x74 ∷ 0xB0 ∷ 0xE6 ∷ 0x4A ∷ 0x51 ∷ 0xC4 ∷ 0xF2 ∷ 0xAB ∷ 0x08 ∷ []

-- one record of the caller stands, and one of the caller with the AppID `app_id`, who is another holder
abbrev standing : Table
standing = stands 0x01 (0x41 ∷ []) ∷ record { key_id = replicate 32 0x00; mixed = with_app_id; name = 0x42 ∷ []; count = 7 } ∷ []

abbrev tells : List ℕ → ℕ
tells s = call itself 4096 none standing lent s

-- whether a command breaks no rule: by a user who is not verified, so that nothing is hashed
abbrev unverified : Lent
unverified = lending lent.aaid 0 0 0 lent.metadata 1 0 lent.key_id lent.public_key lent.nonce

abbrev accepted : List ℕ → Bool
accepted s = not (eqb (call itself 4096 none standing unverified s) 0x08)

-- ---- children that are as short as they may be, and commands: an outer tag and children

abbrev index : Tlv
index = tlv 0x280D (0 ∷ [])

abbrev app_id : Tlv
app_id = tlv 0x2804 (zeros 1)

abbrev challenge_hash : Tlv
challenge_hash = tlv 0x2E0A (zeros 1)

abbrev username : Tlv
username = tlv 0x2806 (zeros 1)

abbrev attestation_type : Tlv
attestation_type = tlv 0x2807 (0x07 ∷ 0x3E ∷ [])

abbrev access_token : Tlv
access_token = tlv 0x2805 token

abbrev user_verify_token : Tlv
user_verify_token = tlv 0x2803 []

abbrev transaction_content : Tlv
transaction_content = tlv 0x2810 []

abbrev key_handle : Tlv
key_handle = tlv 0x2801 (zeros 32)

abbrev key_id : Tlv
key_id = tlv 0x2E09 []

abbrev skipped : Tlv
skipped = tlv 0x0FFF (zeros 1)

pub record Command : Type 0 where
  pub tag : ℕ
  pub children : List Tlv

abbrev command : ℕ → List Tlv → Command
command t cs = record { tag = t; children = cs }

abbrev pub written : Command → List ℕ
written c = bytes (tlv c.tag (bytes c.children) ∷ [])

-- each of the five with its mandatory children
abbrev pub get_info : Command
get_info = command 0x3401 []

abbrev pub register : Command
register = command 0x3402 (index ∷ challenge_hash ∷ username ∷ attestation_type ∷ access_token ∷ [])

abbrev sign : Command
sign = command 0x3403 (index ∷ challenge_hash ∷ access_token ∷ [])

abbrev deregister : Command
deregister = command 0x3404 (index ∷ key_id ∷ access_token ∷ [])

abbrev open_settings : Command
open_settings = command 0x3406 (index ∷ [])

-- a command with children more; one with a child so many times instead of its own
abbrev adding : Command → List Tlv → Command
adding c more = command c.tag (c.children ++ more)

abbrev pub with : Command → ℕ → Tlv → Command
with c n x = adding (command c.tag (select (λ y. not (eqb y.tag x.tag)) c.children)) (replicate n x)

-- ---- how often a child may be given: of these times those that are not 0x08

abbrev times : Tlv → Command → List ℕ → List ℕ
times x c ns = select (λ n. accepted (written (with c n x))) ns

abbrev never : List ℕ
never = 0 ∷ []

abbrev once : List ℕ
once = 1 ∷ []

abbrev at_most_once : List ℕ
at_most_once = 0 ∷ 1 ∷ []

abbrev freely : List ℕ
freely = 0 ∷ 1 ∷ 2 ∷ []

-- of 0, 1 and 2 times in each of the five
abbrev often : Tlv → (in_get_info in_register in_sign in_deregister in_open_settings : List ℕ) → List Line
often x g r s d o =
    times x get_info freely gives g
    ∷ times x register freely gives r
    ∷ times x sign freely gives s
    ∷ times x deregister freely gives d
    ∷ times x open_settings freely gives o
    ∷ []

abbrev everywhere : Tlv → List ℕ → List Line
everywhere x ns = often x ns ns ns ns ns

abbrev how_often : List Line
how_often =
    often index never once once once once
    ++ often (tlv 0x280D (1 ∷ [])) never [] [] [] []
    ++ often app_id never at_most_once at_most_once at_most_once never
    ++ often challenge_hash never once once never never
    ++ often username never once never never never
    ++ often attestation_type never once never never never
    ++ often access_token never once once once never
    ++ often user_verify_token never at_most_once at_most_once never never
    ++ often transaction_content never never at_most_once never never
    ++ often key_handle never never freely never never
    ++ (times key_handle sign (8 ∷ 9 ∷ []) gives (8 ∷ []) ∷ [])
    ++ often key_id never never never once never
    -- TRANSACTION_CONTENT_HASH, and tags that nobody lists: only bit 0x2000 makes them critical
    ++ everywhere (tlv 0x2E10 (zeros 32)) never
    ++ everywhere skipped freely
    ++ everywhere (tlv 0x4000 (zeros 1)) freely
    ++ everywhere (tlv 0x8FFF (zeros 1)) freely
    ++ everywhere (tlv 0x2000 []) never
    ++ everywhere (tlv 0x6000 []) never
    ++ everywhere (tlv 0xAFFF []) never
    -- a listed tag but for its bit 0x2000
    ++ everywhere (tlv 0x080D (1 ∷ [])) freely
    -- skipped composites: empty, with a critical child, with a composite in a critical one; malformed, and there; a critical composite
    ++ everywhere (tlv 0x1FFF []) freely
    ++ everywhere (tlv 0x1FFF (bytes (tlv 0x2FFF [] ∷ []))) freely
    ++ everywhere (tlv 0x1FFF (bytes (tlv 0x3FFF (bytes (tlv 0x1FFF [] ∷ [])) ∷ []))) freely
    ++ everywhere (tlv 0x1000 (zeros 1)) never
    ++ everywhere (tlv 0x1FFF (0xFF ∷ 0x0F ∷ 0x01 ∷ 0x00 ∷ [])) never
    ++ everywhere (tlv 0x9FFF (zeros 1)) never
    ++ everywhere (tlv 0x1FFF (bytes (tlv 0x3FFF (bytes (tlv 0x1FFF (zeros 1) ∷ [])) ∷ []))) never
    ++ everywhere (tlv 0x3FFF []) never

pub how-often : Holds how_often
unfolding computing hashing
how-often = holds how_often refl

-- ---- how long a child's value may be: of these lengths those that are not 0x08

abbrev lengths : Command → ℕ → List ℕ → List ℕ
lengths c t ns = select (λ n. accepted (written (with c 1 (tlv t (zeros n))))) ns

abbrev how_long : List Line
how_long =
    lengths register 0x280D (0 ∷ 1 ∷ 2 ∷ []) gives (1 ∷ [])
    ∷ lengths register 0x2804 (0 ∷ 1 ∷ 512 ∷ 513 ∷ []) gives (1 ∷ 512 ∷ [])
    ∷ lengths register 0x2E0A (0 ∷ 1 ∷ 32 ∷ 33 ∷ []) gives (1 ∷ 32 ∷ [])
    ∷ lengths register 0x2806 (0 ∷ 1 ∷ 128 ∷ 129 ∷ []) gives (1 ∷ 128 ∷ [])
    ∷ lengths register 0x2807 (0 ∷ 1 ∷ 2 ∷ 3 ∷ []) gives (2 ∷ [])
    ∷ lengths register 0x2805 (0 ∷ 1 ∷ 31 ∷ 32 ∷ 33 ∷ []) gives (32 ∷ [])
    ∷ lengths sign 0x280D (0 ∷ 1 ∷ 2 ∷ []) gives (1 ∷ [])
    ∷ lengths sign 0x2804 (0 ∷ 1 ∷ 512 ∷ 513 ∷ []) gives (1 ∷ 512 ∷ [])
    ∷ lengths sign 0x2E0A (0 ∷ 1 ∷ 32 ∷ 33 ∷ []) gives (1 ∷ 32 ∷ [])
    ∷ lengths sign 0x2805 (0 ∷ 1 ∷ 31 ∷ 32 ∷ 33 ∷ []) gives (32 ∷ [])
    ∷ lengths sign 0x2801 (0 ∷ 31 ∷ 32 ∷ 33 ∷ []) gives (32 ∷ [])
    ∷ lengths deregister 0x280D (0 ∷ 1 ∷ 2 ∷ []) gives (1 ∷ [])
    ∷ lengths deregister 0x2804 (0 ∷ 1 ∷ 512 ∷ 513 ∷ []) gives (1 ∷ 512 ∷ [])
    ∷ lengths deregister 0x2E09 (0 ∷ 1 ∷ 16 ∷ 31 ∷ 32 ∷ 33 ∷ []) gives (0 ∷ 32 ∷ [])
    ∷ lengths deregister 0x2805 (0 ∷ 1 ∷ 31 ∷ 32 ∷ 33 ∷ []) gives (32 ∷ [])
    ∷ lengths open_settings 0x280D (0 ∷ 1 ∷ 2 ∷ []) gives (1 ∷ [])
    -- "the rest any": Sign has 8,192 bytes with 8,138 of content
    ∷ lengths register 0x2803 (0 ∷ 1 ∷ 2000 ∷ []) gives (0 ∷ 1 ∷ 2000 ∷ [])
    ∷ lengths sign 0x2803 (0 ∷ 1 ∷ []) gives (0 ∷ 1 ∷ [])
    ∷ lengths sign 0x2810 (0 ∷ 1 ∷ 8138 ∷ 8139 ∷ []) gives (0 ∷ 1 ∷ 8138 ∷ [])
    ∷ []

pub how-long : Holds how_long
unfolding computing hashing
how-long = holds how_long refl

-- ---- whole commands: with mandatory children, with all that are listed, in another order; the outer length; the outer tag

abbrev mandatory : List Command
mandatory = get_info ∷ register ∷ sign ∷ deregister ∷ open_settings ∷ []

abbrev listed : List Command
listed =
    get_info
    ∷ adding register (app_id ∷ user_verify_token ∷ [])
    ∷ adding sign (app_id ∷ transaction_content ∷ user_verify_token ∷ key_handle ∷ key_handle ∷ [])
    ∷ adding deregister (app_id ∷ [])
    ∷ open_settings
    ∷ []

abbrev reversed : Command → Command
reversed c = command c.tag (reverse c.children)

abbrev tell_all : List Command → List ℕ
tell_all cs = map (λ c. tells (written c)) cs

-- of these outer lengths, before the children and then these bytes, those that are not 0x08
abbrev stating : Command → List ℕ → List ℕ → List ℕ
stating c more ns = select (λ n. accepted (header c.tag n ++ (bytes c.children ++ more))) ns

abbrev whole_commands : List Line
whole_commands =
    tell_all mandatory gives (300 ∷ 200 ∷ 200 ∷ 0x00 ∷ 0x06 ∷ [])
    ∷ tell_all listed gives (300 ∷ 200 ∷ 200 ∷ 0x00 ∷ 0x06 ∷ [])
    ∷ tell_all (map reversed mandatory) gives (300 ∷ 200 ∷ 200 ∷ 0x00 ∷ 0x06 ∷ [])
    ∷ tell_all (map reversed listed) gives (300 ∷ 200 ∷ 200 ∷ 0x00 ∷ 0x06 ∷ [])
    -- attestation types
    ∷ map (λ t. tells (written (with register 1 (tlv 0x2807 t)))) ((0x06 ∷ 0x3E ∷ []) ∷ (0x08 ∷ 0x3E ∷ []) ∷ (0x09 ∷ 0x3E ∷ []) ∷ [])
    gives (0x07 ∷ 200 ∷ 0x07 ∷ [])
    -- the outer length: one too small, right, one too large, its bytes exchanged
    ∷ stating get_info [] (0 ∷ 1 ∷ []) gives (0 ∷ [])
    ∷ stating register [] (56 ∷ 57 ∷ 58 ∷ 0x3900 ∷ []) gives (57 ∷ [])
    ∷ stating sign [] (45 ∷ 46 ∷ 47 ∷ 0x2E00 ∷ []) gives (46 ∷ [])
    ∷ stating deregister [] (44 ∷ 45 ∷ 46 ∷ 0x2D00 ∷ []) gives (45 ∷ [])
    ∷ stating open_settings [] (4 ∷ 5 ∷ 6 ∷ 0x0500 ∷ []) gives (5 ∷ [])
    -- a TLV of five bytes after the last child
    ∷ stating get_info (bytes (skipped ∷ [])) (0 ∷ 4 ∷ 5 ∷ 6 ∷ []) gives (5 ∷ [])
    ∷ stating register (bytes (skipped ∷ [])) (57 ∷ 61 ∷ 62 ∷ 63 ∷ []) gives (62 ∷ [])
    ∷ stating sign (bytes (skipped ∷ [])) (46 ∷ 50 ∷ 51 ∷ 52 ∷ []) gives (51 ∷ [])
    ∷ stating deregister (bytes (skipped ∷ [])) (45 ∷ 49 ∷ 50 ∷ 51 ∷ []) gives (50 ∷ [])
    ∷ stating open_settings (bytes (skipped ∷ [])) (5 ∷ 9 ∷ 10 ∷ 11 ∷ []) gives (10 ∷ [])
    -- a byte after it
    ∷ stating open_settings (zeros 1) (5 ∷ 6 ∷ []) gives []
    -- four bytes with these tags, and fewer bytes
    ∷ map (λ t. tells (header t 0)) (0x3400 ∷ 0x3401 ∷ 0x3402 ∷ 0x3403 ∷ 0x3404 ∷ 0x3405 ∷ 0x3406 ∷ 0x3407 ∷ 0x3601 ∷ 0x0134 ∷ [])
    gives (103 ∷ 300 ∷ 0x08 ∷ 0x08 ∷ 0x08 ∷ 103 ∷ 0x08 ∷ 103 ∷ 103 ∷ 103 ∷ [])
    ∷ map (λ n. tells (take n (header 0x3401 0))) (0 ∷ 1 ∷ 2 ∷ 3 ∷ 4 ∷ []) gives (103 ∷ 103 ∷ 103 ∷ 103 ∷ 300 ∷ [])
    ∷ []

pub whole-commands : Holds whole_commands
unfolding computing hashing
whole-commands = holds whole_commands refl

-- ---- lent results: these lengths and numbers, and what the five tell; Sign has content, so that the display is asked

abbrev pub lent_of : (aaid version signature_algorithm key_algorithm metadata verdict display key_id public_key nonce : ℕ) → Lent
lent_of a v s k m verdict display i p n =
    lending (zeros a) v s k (zeros m) verdict display (replicate i 0xD0) (zeros p) (zeros n)

abbrev lends : (aaid version signature_algorithm key_algorithm metadata verdict display key_id public_key nonce : ℕ) → List ℕ
lends a v s k m verdict display i p n =
    map (λ c. call itself 4096 none standing (lent_of a v s k m verdict display i p n) (written c))
    (get_info ∷ register ∷ with sign 1 (tlv 0x2810 (zeros 1)) ∷ deregister ∷ open_settings ∷ [])

abbrev lent_results : List Line
lent_results =
    -- all at their least; the greatest lengths
    lends 9 0 0 0 15 0 0 32 1 8 gives (300 ∷ 200 ∷ 200 ∷ 0x00 ∷ 0x06 ∷ [])
    ∷ lends 9 65535 65535 65535 15 0 0 32 512 32 gives (300 ∷ 200 ∷ 200 ∷ 0x00 ∷ 0x06 ∷ [])
    -- AAID, version, both algorithms, metadata
    ∷ lends 8 0 0 0 15 0 0 32 1 8 gives (104 ∷ 104 ∷ 104 ∷ 0x00 ∷ 0x06 ∷ [])
    ∷ lends 10 0 0 0 15 0 0 32 1 8 gives (104 ∷ 104 ∷ 104 ∷ 0x00 ∷ 0x06 ∷ [])
    ∷ lends 9 65536 0 0 15 0 0 32 1 8 gives (104 ∷ 104 ∷ 104 ∷ 0x00 ∷ 0x06 ∷ [])
    ∷ lends 9 0 65536 0 15 0 0 32 1 8 gives (104 ∷ 104 ∷ 104 ∷ 0x00 ∷ 0x06 ∷ [])
    ∷ lends 9 0 0 65536 15 0 0 32 1 8 gives (104 ∷ 104 ∷ 104 ∷ 0x00 ∷ 0x06 ∷ [])
    ∷ lends 9 0 0 0 14 0 0 32 1 8 gives (104 ∷ 104 ∷ 104 ∷ 0x00 ∷ 0x06 ∷ [])
    ∷ lends 9 0 0 0 16 0 0 32 1 8 gives (104 ∷ 104 ∷ 104 ∷ 0x00 ∷ 0x06 ∷ [])
    -- verdict
    ∷ lends 9 0 0 0 15 1 0 32 1 8 gives (300 ∷ 0x02 ∷ 0x02 ∷ 0x00 ∷ 0x06 ∷ [])
    ∷ lends 9 0 0 0 15 2 0 32 1 8 gives (300 ∷ 0x03 ∷ 0x03 ∷ 0x00 ∷ 0x06 ∷ [])
    ∷ lends 9 0 0 0 15 3 0 32 1 8 gives (300 ∷ 0x05 ∷ 0x05 ∷ 0x00 ∷ 0x06 ∷ [])
    ∷ lends 9 0 0 0 15 4 0 32 1 8 gives (300 ∷ 0x0E ∷ 0x0E ∷ 0x00 ∷ 0x06 ∷ [])
    ∷ lends 9 0 0 0 15 5 0 32 1 8 gives (300 ∷ 0x10 ∷ 0x10 ∷ 0x00 ∷ 0x06 ∷ [])
    ∷ lends 9 0 0 0 15 6 0 32 1 8 gives (300 ∷ 104 ∷ 104 ∷ 0x00 ∷ 0x06 ∷ [])
    ∷ lends 9 0 0 0 15 256 0 32 1 8 gives (300 ∷ 104 ∷ 104 ∷ 0x00 ∷ 0x06 ∷ [])
    ∷ lends 9 0 0 0 15 65536 0 32 1 8 gives (300 ∷ 104 ∷ 104 ∷ 0x00 ∷ 0x06 ∷ [])
    -- display result
    ∷ lends 9 0 0 0 15 0 1 32 1 8 gives (300 ∷ 200 ∷ 0x05 ∷ 0x00 ∷ 0x06 ∷ [])
    ∷ lends 9 0 0 0 15 0 2 32 1 8 gives (300 ∷ 200 ∷ 0x04 ∷ 0x00 ∷ 0x06 ∷ [])
    ∷ lends 9 0 0 0 15 0 3 32 1 8 gives (300 ∷ 200 ∷ 0x0E ∷ 0x00 ∷ 0x06 ∷ [])
    ∷ lends 9 0 0 0 15 0 4 32 1 8 gives (300 ∷ 200 ∷ 104 ∷ 0x00 ∷ 0x06 ∷ [])
    ∷ lends 9 0 0 0 15 0 256 32 1 8 gives (300 ∷ 200 ∷ 104 ∷ 0x00 ∷ 0x06 ∷ [])
    ∷ lends 9 0 0 0 15 0 65536 32 1 8 gives (300 ∷ 200 ∷ 104 ∷ 0x00 ∷ 0x06 ∷ [])
    -- KeyID
    ∷ lends 9 0 0 0 15 0 0 0 1 8 gives (300 ∷ 104 ∷ 200 ∷ 0x00 ∷ 0x06 ∷ [])
    ∷ lends 9 0 0 0 15 0 0 31 1 8 gives (300 ∷ 104 ∷ 200 ∷ 0x00 ∷ 0x06 ∷ [])
    ∷ lends 9 0 0 0 15 0 0 33 1 8 gives (300 ∷ 104 ∷ 200 ∷ 0x00 ∷ 0x06 ∷ [])
    -- public key, nonce
    ∷ lends 9 0 0 0 15 0 0 32 0 8 gives (300 ∷ 104 ∷ 200 ∷ 0x00 ∷ 0x06 ∷ [])
    ∷ lends 9 0 0 0 15 0 0 32 513 8 gives (300 ∷ 104 ∷ 200 ∷ 0x00 ∷ 0x06 ∷ [])
    ∷ lends 9 0 0 0 15 0 0 32 1 7 gives (300 ∷ 200 ∷ 104 ∷ 0x00 ∷ 0x06 ∷ [])
    ∷ lends 9 0 0 0 15 0 0 32 1 33 gives (300 ∷ 200 ∷ 104 ∷ 0x00 ∷ 0x06 ∷ [])
    -- all wrong: Deregister and Open settings use nothing that is lent
    ∷ lends 0 65536 65536 65536 0 6 4 0 0 0 gives (104 ∷ 104 ∷ 104 ∷ 0x00 ∷ 0x06 ∷ [])
    ∷ []

pub lent-results : Holds lent_results
unfolding computing hashing
lent-results = holds lent_results refl

-- ---- outputs, and the order of refusals: what GetInfo, a command that is none of the five and a GetInfo that breaks a rule tell, with
-- these lengths of the outputs, this table and an AAID of so many bytes

abbrev unnamed : Table
unnamed = stands 0x00 [] ∷ []

abbrev turn : Form → ℕ → Option ℕ → Table → ℕ → List ℕ
turn f n m t a =
    map (λ c. call f n m t (lent_of a 0 0 0 15 0 0 32 1 8) (written c))
    (get_info ∷ command 0x3405 [] ∷ adding get_info (index ∷ []) ∷ [])

abbrev turns : Form → List Line
turns f =
    turn f 4096 none standing 9 gives (300 ∷ 103 ∷ 0x08 ∷ [])
    ∷ turn f 4096 (some 6912) standing 9 gives (300 ∷ 103 ∷ 0x08 ∷ [])
    ∷ turn f 4095 none standing 9 gives (101 ∷ 101 ∷ 101 ∷ [])
    ∷ turn f 4095 (some 6912) standing 9 gives (101 ∷ 101 ∷ 101 ∷ [])
    ∷ turn f 4096 (some 6911) standing 9 gives (101 ∷ 101 ∷ 101 ∷ [])
    ∷ turn f 4096 none unnamed 9 gives (102 ∷ 102 ∷ 102 ∷ [])
    ∷ turn f 4096 none standing 8 gives (104 ∷ 103 ∷ 104 ∷ [])
    ∷ turn f 4095 none unnamed 9 gives (101 ∷ 101 ∷ 101 ∷ [])
    ∷ turn f 4096 (some 6911) unnamed 9 gives (101 ∷ 101 ∷ 101 ∷ [])
    ∷ turn f 4095 none standing 8 gives (101 ∷ 101 ∷ 101 ∷ [])
    ∷ turn f 4096 none unnamed 8 gives (102 ∷ 102 ∷ 102 ∷ [])
    ∷ turn f 4095 none unnamed 8 gives (101 ∷ 101 ∷ 101 ∷ [])
    ∷ []

pub refusals_in_turn : (f : Form) → Holds (turns f)
unfolding computing hashing
refusals_in_turn = each-form _ (holds (turns itself) refl) (holds (turns in_stored_form) refl)
