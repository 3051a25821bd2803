-- The conditions of the separation of holders can be met where strangers are busy, and freshness and room are both needed.
-- Assumes nothing.
use mathlib.Core.Path.{◌≡◌, refl, sym, ap, ◌∙◌}
use mathlib.Core.Bool.{Bool, true, false, ◌&&◌}
use mathlib.Core.List.{List, [], ◌∷◌, ◌++◌, map}
use mathlib.Core.Option
use mathlib.Core.Option.{Option, none, some}
use Prim.Native.Nat.{ℕ, zero, suc, ◌+◌, ◌/◌, ◌<◌}
use native.Mathlib.Omega.{arith}
use lib.Dec.{ltb}
use borrow.Author.Tests.{ltb-true}
use lib.ListN.{length, get_or, replicate}
use Rattle.model.specs.Lists.{first, all, eq_bytes}
use Rattle.model.specs.Sha256.{sha256}
use Rattle.model.specs.Tlv.{le, Tlv, index, app_id, challenge_hash, username, attestation_type, access_token, key_id_or_none, full, field_in, Kind, register, sign, deregister}
use Rattle.model.specs.Layouts.{write}
use Rattle.model.specs.Records.{Record, Table, own, table_ok}
use Rattle.model.specs.Commands.{Lent, Call, mixed_in, mixed_of, Result, refused, gave, response, draft, register_draft, sign_draft, status_only}
use Rattle.model.specs.Traces.{Act, commands, withdraws, Form, itself, in_stored_form, Step, Told, wrote, done, calls_of, Seen, observe, final, fresh, roomy, Comparable}
use Rattle.model.proofs.Basics.{impossible, and_left, and_right, eq_bytes-eq, all-each}
use Rattle.model.proofs.Computing.{computing, hashing}
use Rattle.model.specs.Writer.{command}
use Rattle.model.proofs.Witness.{zeros, byte, child, lending}
use Rattle.model.proofs.Separation.{ruling, Said, Run, true_run, run, run_is}

-- ---- calls

-- 32 bytes, for access tokens and KeyIDs
abbrev pub id : ℕ → List ℕ
id n = replicate 32 n

-- the holder with access token `id m` and no AppID, its hash written out; 0: of what has no access token
abbrev hashes : List (List ℕ)
hashes =
    (0xE3 ∷ 0xB0 ∷ 0xC4 ∷ 0x42 ∷ 0x98 ∷ 0xFC ∷ 0x1C ∷ 0x14 ∷ 0x9A ∷ 0xFB ∷ 0xF4 ∷ 0xC8 ∷ 0x99 ∷ 0x6F ∷ 0xB9 ∷ 0x24
    ∷ 0x27 ∷ 0xAE ∷ 0x41 ∷ 0xE4 ∷ 0x64 ∷ 0x9B ∷ 0x93 ∷ 0x4C ∷ 0xA4 ∷ 0x95 ∷ 0x99 ∷ 0x1B ∷ 0x78 ∷ 0x52 ∷ 0xB8 ∷ 0x55 ∷ [])
    ∷ (0x72 ∷ 0xCD ∷ 0x6E ∷ 0x84 ∷ 0x22 ∷ 0xC4 ∷ 0x07 ∷ 0xFB ∷ 0x6D ∷ 0x09 ∷ 0x86 ∷ 0x90 ∷ 0xF1 ∷ 0x13 ∷ 0x0B ∷ 0x7D
    ∷ 0xED ∷ 0x7E ∷ 0xC2 ∷ 0xF7 ∷ 0xF5 ∷ 0xE1 ∷ 0xD3 ∷ 0x0B ∷ 0xD9 ∷ 0xD5 ∷ 0x21 ∷ 0xF0 ∷ 0x15 ∷ 0x36 ∷ 0x37 ∷ 0x93 ∷ [])
    ∷ (0x75 ∷ 0x87 ∷ 0x7B ∷ 0xB4 ∷ 0x1D ∷ 0x39 ∷ 0x3B ∷ 0x5F ∷ 0xB8 ∷ 0x45 ∷ 0x5C ∷ 0xE6 ∷ 0x0E ∷ 0xCD ∷ 0x8D ∷ 0xDA
    ∷ 0x00 ∷ 0x1D ∷ 0x06 ∷ 0x31 ∷ 0x64 ∷ 0x96 ∷ 0xB1 ∷ 0x4D ∷ 0xFA ∷ 0x7F ∷ 0x89 ∷ 0x56 ∷ 0x56 ∷ 0xEE ∷ 0xCA ∷ 0x4A ∷ [])
    ∷ (0x64 ∷ 0x8A ∷ 0xA5 ∷ 0xC5 ∷ 0x79 ∷ 0xFB ∷ 0x30 ∷ 0xF3 ∷ 0x8A ∷ 0xF7 ∷ 0x44 ∷ 0xD9 ∷ 0x7D ∷ 0x6E ∷ 0xC8 ∷ 0x40
    ∷ 0xC7 ∷ 0xA9 ∷ 0x12 ∷ 0x77 ∷ 0xA4 ∷ 0x99 ∷ 0xA0 ∷ 0xD7 ∷ 0x80 ∷ 0xF3 ∷ 0xE7 ∷ 0x31 ∷ 0x4E ∷ 0xCA ∷ 0x09 ∷ 0x0B ∷ [])
    ∷ (0x9F ∷ 0x4F ∷ 0xB6 ∷ 0x8F ∷ 0x3E ∷ 0x1D ∷ 0xAC ∷ 0x82 ∷ 0x20 ∷ 0x2F ∷ 0x9A ∷ 0xA5 ∷ 0x81 ∷ 0xCE ∷ 0x0B ∷ 0xBF
    ∷ 0x1F ∷ 0x76 ∷ 0x5D ∷ 0xF0 ∷ 0xE9 ∷ 0xAC ∷ 0x3C ∷ 0x8C ∷ 0x57 ∷ 0xE2 ∷ 0x0F ∷ 0x68 ∷ 0x5A ∷ 0xBA ∷ 0xB8 ∷ 0xED ∷ [])
    ∷ (0xF8 ∷ 0x49 ∷ 0xD6 ∷ 0x73 ∷ 0x25 ∷ 0xFA ∷ 0xCF ∷ 0x04 ∷ 0x17 ∷ 0x7B ∷ 0xC6 ∷ 0x63 ∷ 0xB2 ∷ 0xDC ∷ 0x54 ∷ 0x40
    ∷ 0x51 ∷ 0x83 ∷ 0x1C ∷ 0x58 ∷ 0x9E ∷ 0xF5 ∷ 0x81 ∷ 0xD4 ∷ 0x12 ∷ 0xF2 ∷ 0xEB ∷ 0xA4 ∷ 0x48 ∷ 0x34 ∷ 0xE7 ∷ 0x7C ∷ [])
    ∷ (0xE8 ∷ 0x02 ∷ 0x08 ∷ 0x6A ∷ 0xD6 ∷ 0xA1 ∷ 0xE1 ∷ 0x6B ∷ 0x78 ∷ 0x35 ∷ 0x2A ∷ 0xD7 ∷ 0x29 ∷ 0x6D ∷ 0x2A ∷ 0xAB
    ∷ 0xD8 ∷ 0x35 ∷ 0xB1 ∷ 0xB1 ∷ 0x6D ∷ 0xBE ∷ 0x95 ∷ 0x1E ∷ 0x11 ∷ 0x35 ∷ 0xB9 ∷ 0x7C ∷ 0x68 ∷ 0xE2 ∷ 0x9D ∷ 0x81 ∷ [])
    ∷ (0x4B ∷ 0xB0 ∷ 0x6F ∷ 0x8E ∷ 0x4E ∷ 0x3A ∷ 0x77 ∷ 0x15 ∷ 0xD2 ∷ 0x01 ∷ 0xD5 ∷ 0x73 ∷ 0xD0 ∷ 0xAA ∷ 0x42 ∷ 0x37
    ∷ 0x62 ∷ 0xE5 ∷ 0x5D ∷ 0xAB ∷ 0xD6 ∷ 0x1A ∷ 0x2C ∷ 0x02 ∷ 0x27 ∷ 0x8F ∷ 0xA5 ∷ 0x6C ∷ 0xC6 ∷ 0xD2 ∷ 0x94 ∷ 0xE0 ∷ [])
    ∷ (0x25 ∷ 0x78 ∷ 0xCC ∷ 0xF8 ∷ 0x64 ∷ 0x5B ∷ 0x2D ∷ 0x1D ∷ 0xC1 ∷ 0x0C ∷ 0x46 ∷ 0x5E ∷ 0xFF ∷ 0x84 ∷ 0x35 ∷ 0x85
    ∷ 0x97 ∷ 0x0F ∷ 0x3A ∷ 0x7E ∷ 0x22 ∷ 0x29 ∷ 0x6A ∷ 0x92 ∷ 0xCA ∷ 0xD5 ∷ 0x5D ∷ 0x48 ∷ 0x9A ∷ 0x27 ∷ 0x20 ∷ 0x72 ∷ [])
    ∷ (0x8C ∷ 0x0C ∷ 0xC1 ∷ 0x7A ∷ 0x04 ∷ 0x94 ∷ 0x2C ∷ 0xC4 ∷ 0xF8 ∷ 0xE0 ∷ 0xFE ∷ 0x0B ∷ 0x30 ∷ 0x26 ∷ 0x06 ∷ 0xD3
    ∷ 0x10 ∷ 0x88 ∷ 0x60 ∷ 0xC1 ∷ 0x26 ∷ 0x42 ∷ 0x8B ∷ 0xA2 ∷ 0xCE ∷ 0xEB ∷ 0x5F ∷ 0x9E ∷ 0xD4 ∷ 0x1C ∷ 0x2B ∷ 0x05 ∷ [])
    ∷ []

abbrev pub owner : ℕ → List ℕ
owner m = get_or hashes m []

-- they are the hashes of these
abbrev tokens : List (List ℕ)
tokens = [] ∷ map id (1 ∷ 2 ∷ 3 ∷ 4 ∷ 5 ∷ 6 ∷ 7 ∷ 8 ∷ 9 ∷ [])

pub owners : map sha256 tokens ≡ hashes
unfolding hashing
owners = refl

-- a call's, by the first byte of its access token
abbrev number_of : Call → ℕ
number_of c = get_or (field_in access_token c.command) 0 0

abbrev owner_of : Call → List ℕ
owner_of c = owner (number_of c)

-- it is the call's mixed token, where this test passes, which computes no hash
abbrev is_token : Call → Bool
is_token c =
    ltb (number_of c) 10 && eq_bytes (field_in access_token c.command ++ field_in app_id c.command) (get_or tokens (number_of c) [])

hash_at : (n : ℕ) (ts : List (List ℕ)) → n < length ts → get_or (map sha256 ts) n [] ≡ sha256 (get_or ts n [])
hash_at n [] h = absurd (omega arith)
hash_at zero (t ∷ ts) h = refl
hash_at (suc n) (t ∷ ts) h = hash_at n ts (omega arith)

owner-is : (c : Call) → is_token c ≡ true → owner_of c ≡ mixed_of c
unfolding mixed_in
owner-is c e =
    let n : number_of c < 10 = ltb-true _ _ (and_left (ltb (number_of c) 10) _ e) in
    let t = eq_bytes-eq _ _ (and_right (ltb (number_of c) 10) _ e) in
    rw (t, ← owners) (hash_at (number_of c) tokens n)

-- what is lent with KeyID k, and a nonce of n bytes
abbrev lent_nonce : ℕ → ℕ → Lent
lent_nonce n k = lending (zeros 9) 1 1 0x100 (zeros 15) 0 0 (id k) byte (zeros n)

abbrev lent : ℕ → Lent
lent k = lent_nonce 8 k

-- holder m's commands
abbrev asking : Kind → ℕ → List Tlv → List ℕ
asking k m cs = command k (child index byte ∷ child access_token (id m) ∷ cs)

abbrev pub register_command : ℕ → List ℕ
register_command m =
    asking register m (child challenge_hash byte ∷ child username byte ∷ child attestation_type (le 2 full) ∷ [])

abbrev pub sign_command : ℕ → List ℕ
sign_command m = asking sign m (child challenge_hash byte ∷ [])

abbrev pub remove_command : ℕ → List ℕ
remove_command m = asking deregister m (child key_id_or_none [] ∷ [])

-- as the entries have it: a table by value without a table output, a stored one with an output of 6,912 bytes for holder 1 and more for others
abbrev table_output : ℕ → Form → Option ℕ
table_output m itself = none
table_output m in_stored_form = some (6911 + m)

-- a call of holder m that is lent this and a response output of n bytes
abbrev calling : List ℕ → ℕ → Lent → ℕ → Form → Step
calling s m l n f = record { act = commands (record { command = s; lent = l; output = n; table_output = table_output m f }); form = f }

-- with KeyID k
abbrev pub step : (ℕ → List ℕ) → ℕ → ℕ → Form → Step
step s m k f = calling (s m) m (lent k) 4096 f

-- ---- what a holder sees of them

-- holder m's record with KeyID k after n signatures
abbrev pub key : ℕ → ℕ → ℕ → Record
key m k n = record { key_id = id k; mixed = owner m; name = byte; count = n }

abbrev pub registered : ℕ → ℕ → Seen
registered m k = record { answer = gave (wrote (draft (register_draft (register_command m) (lent k)))); records = key m k 0 ∷ [] }

abbrev pub signed : ℕ → ℕ → Seen
signed m k = record { answer = gave (wrote (draft (sign_draft (sign_command m) (lent k) (key m k 0)))); records = key m k 1 ∷ [] }

-- a status alone, with no records left
abbrev pub told : Kind → ℕ → Seen
told k n = record { answer = gave (wrote (response (write (status_only k) (le 2 n ∷ [])))); records = [] }

-- ---- traces

-- the holder, who is 1, registers, signs and deregisters
abbrev pub quiet : List Step
quiet = step register_command 1 1 in_stored_form ∷ step sign_command 1 1 itself ∷ step remove_command 1 1 in_stored_form ∷ []

-- 2 does so too, and 3 registers and signs, between the holder's calls
abbrev pub busy : List Step
busy =
    step register_command 2 2 in_stored_form ∷ step register_command 1 1 in_stored_form ∷ step register_command 3 3 itself
    ∷ step sign_command 2 2 in_stored_form ∷ step sign_command 1 1 itself ∷ step remove_command 2 2 itself
    ∷ step remove_command 1 1 in_stored_form ∷ step sign_command 3 3 itself ∷ []

-- 2 is lent the KeyID that the holder is lent then
abbrev pub repeated : List Step
repeated = step register_command 2 1 itself ∷ quiet

-- n registrations by others, 8 for each of them
abbrev pub crowd : ℕ → List Step
crowd zero = []
crowd (suc n) = step register_command (2 + n / 8) (3 + n) itself ∷ crowd n

abbrev pub crowded : List Step
crowded = crowd 32 ++ quiet

-- ---- each trace in one run for a holder, with the hashes as they are written out

-- a withdrawal is lent its mixed token
abbrev is_said : Act → Bool
is_said (commands c) = is_token c
is_said (withdraws w) = true

act-said : (a : Act) → is_said a ≡ true → Said owner_of a
act-said (commands c) e = owner-is c e
act-said (withdraws w) e = tt

abbrev said : List Step → Bool
said ss = all (λ s. is_said s.act) ss

in_one_run : (h : List ℕ) (ss : List Step) → said ss ≡ true → true_run h ss [] ≡ run owner_of h ss []
unfolding table_ok
in_one_run h ss e = run_is owner_of h ss [] (all-each _ _ (λ s p. act-said s.act p) ss e) refl

-- the conditions, by the holder's two runs
comparable_by : (a b : List Step) {x y : Run} → true_run (owner 1) a [] ≡ x → true_run (owner 1) b [] ≡ y → fresh [] a ≡ true → fresh [] b ≡ true
    → x.calls ≡ y.calls → x.room ≡ true → y.room ≡ true → Comparable (owner 1) a b
comparable_by a b p q f g c r s =
    record {
      holder = refl;
      same = ap (λ r. r.calls) p ∙ c ∙ sym (ap (λ r. r.calls) q);
      fresh-a = f;
      fresh-b = g;
      roomy-a = ap (λ r. r.room) p ∙ r;
      roomy-b = ap (λ r. r.room) q ∙ s;
    }

-- ---- the conditions are met, and none of these calls is in vain

pub record Met : Type 0 where
  pub conditions : Comparable (owner 1) quiet busy
  pub holder : observe (owner 1) busy [] ≡ registered 1 1 ∷ signed 1 1 ∷ told deregister 0x00 ∷ []
  pub stranger : observe (owner 2) busy [] ≡ registered 2 2 ∷ signed 2 2 ∷ told deregister 0x00 ∷ []
  pub another : observe (owner 3) busy [] ≡ registered 3 3 ∷ signed 3 3 ∷ []

abbrev calls_in : List Step → List Act
calls_in ss = map (λ s. s.act) ss

-- the holder's part of `quiet`, and what 1, 2 and 3 see of `busy`
quiet_of_1 : run owner_of (owner 1) quiet []
    ≡ record { seen = registered 1 1 ∷ signed 1 1 ∷ told deregister 0x00 ∷ []; calls = calls_in quiet; room = true; records = []; size = 0 }
unfolding computing ruling
quiet_of_1 = refl

busy_of_1 : run owner_of (owner 1) busy []
    ≡ record { seen = registered 1 1 ∷ signed 1 1 ∷ told deregister 0x00 ∷ []; calls = calls_in quiet; room = true; records = []; size = 1 }
unfolding computing ruling
busy_of_1 = refl

quietly : true_run (owner 1) quiet []
    ≡ record { seen = registered 1 1 ∷ signed 1 1 ∷ told deregister 0x00 ∷ []; calls = calls_in quiet; room = true; records = []; size = 0 }
unfolding computing ruling
quietly = in_one_run (owner 1) quiet refl ∙ quiet_of_1

pub met : Met
unfolding computing ruling
met =
    let b = in_one_run (owner 1) busy refl ∙ busy_of_1 in
    record {
      conditions = comparable_by quiet busy quietly b refl refl refl refl refl;
      holder = ap (λ r. r.seen) b;
      stranger = ap (λ r. r.seen) (in_one_run (owner 2) busy refl);
      another = ap (λ r. r.seen) (in_one_run (owner 3) busy refl);
    }

-- ---- they ask for no more: a full table, refused calls, bytes that are no command, a KeyID lent to a Sign before; and a command with the holder's
-- token that breaks a rule, which is a stranger's

-- an output that is too short: refusal 1
abbrev short : ℕ → ℕ → Form → Step
short m k f = calling (sign_command m) m (lent k) 4095 f

-- a nonce that is too short: refusal 4
abbrev wrong : ℕ → ℕ → Form → Step
wrong m k f = calling (sign_command m) m (lent_nonce 7 k) 4096 f

-- refusal 3
abbrev no_command : ℕ → ℕ → Form → Step
no_command m k f = step (λ m. byte) m k f

-- a Deregister without a KeyID: 0x08
abbrev breaking : ℕ → ℕ → Form → Step
breaking m k f = step (λ m. asking deregister m []) m k f

abbrev pub refusing : List Step
refusing =
    step register_command 1 1 itself ∷ short 1 1 in_stored_form ∷ wrong 1 1 itself ∷ step sign_command 1 1 in_stored_form ∷ []

-- the table is full from the 31 others on; 9 finds no place, twice, and the holder signs
abbrev pub filling : List Step
filling =
    step sign_command 7 1 in_stored_form ∷ step register_command 1 1 itself
    ∷ (crowd 31 ++ (step register_command 9 99 itself ∷ short 1 1 in_stored_form ∷ no_command 5 1 in_stored_form ∷ breaking 1 1 itself
    ∷ wrong 1 1 itself ∷ step sign_command 1 1 in_stored_form ∷ step register_command 9 98 itself ∷ []))

abbrev refused_with : ℕ → Seen
refused_with n = record { answer = refused n; records = key 1 1 0 ∷ [] }

pub record MetFull : Type 0 where
  pub conditions : Comparable (owner 1) refusing filling
  pub holder : observe (owner 1) filling [] ≡ registered 1 1 ∷ refused_with 1 ∷ refused_with 4 ∷ signed 1 1 ∷ []
  pub stranger : observe (owner 9) filling [] ≡ told register 0x0F ∷ told register 0x0F ∷ []
  pub records : own (owner 1) (final filling []) ≡ key 1 1 1 ∷ []
  pub full : length (final filling []) ≡ 32

filling_said : said filling ≡ true
unfolding computing ruling
filling_said = refl

refusing_of_1 : run owner_of (owner 1) refusing []
    ≡ record { seen = registered 1 1 ∷ refused_with 1 ∷ refused_with 4 ∷ signed 1 1 ∷ []; calls = calls_in refusing; room = true; records = key 1 1 1 ∷ []; size = 1 }
unfolding computing ruling
refusing_of_1 = refl

-- 1's part, and 9's
run_of_1 : run owner_of (owner 1) filling []
    ≡ record { seen = registered 1 1 ∷ refused_with 1 ∷ refused_with 4 ∷ signed 1 1 ∷ []; calls = calls_in refusing; room = true; records = key 1 1 1 ∷ []; size = 32 }
unfolding computing ruling
run_of_1 = refl

run_of_9 : run owner_of (owner 9) filling []
    ≡ record {
      seen = told register 0x0F ∷ told register 0x0F ∷ [];
      calls = (step register_command 9 99 itself).act ∷ (step register_command 9 98 itself).act ∷ [];
      room = false;
      records = [];
      size = 32;
    }
unfolding computing ruling
run_of_9 = refl

comparable : Comparable (owner 1) refusing filling
unfolding computing ruling
comparable =
    comparable_by refusing filling (in_one_run (owner 1) refusing refl ∙ refusing_of_1) (in_one_run (owner 1) filling filling_said ∙ run_of_1) refl refl refl refl
    refl

pub met-full : MetFull
unfolding computing ruling
met-full =
    let h = in_one_run (owner 1) filling filling_said ∙ run_of_1 in
    let r = in_one_run (owner 9) filling filling_said ∙ run_of_9 in
    record {
      conditions = comparable;
      holder = ap (λ r. r.seen) h;
      stranger = ap (λ r. r.seen) r;
      records = ap (λ r. r.records) h;
      full = ap (λ r. r.size) r;
    }

-- ---- withdrawals (request A5) stand in both lists, refused ones included: no room is asked for them, and their KeyIDs are not lent to a Register

-- a withdrawal with these values and a table output of n bytes, where one is lent
abbrev taking_with : List ℕ → List ℕ → ℕ → Form → Step
taking_with m k n itself = record { act = withdraws (record { mixed = m; key_id = k; table_output = none }); form = itself }
taking_with m k n in_stored_form = record { act = withdraws (record { mixed = m; key_id = k; table_output = some n }); form = in_stored_form }

-- holder m's, of its record with KeyID k
abbrev pub taking : ℕ → ℕ → Form → Step
taking m k f = taking_with (owner m) (id k) (6911 + m) f

-- the holder takes 1 back, which is not there yet (7), registers it and takes it back; registers 2, takes 1 back once more (7), signs with 2 and cannot take it
-- back (7); then with a table output that is too short (1), and a KeyID that is (4)
abbrev pub taken : List Step
taken =
    taking 1 1 in_stored_form ∷ step register_command 1 1 in_stored_form ∷ taking 1 1 in_stored_form ∷ step register_command 1 2 itself ∷ taking 1 1 itself
    ∷ step sign_command 1 2 itself ∷ taking 1 2 in_stored_form ∷ taking_with (owner 1) (id 2) 6911 in_stored_form ∷ taking_with (owner 1) (replicate 31 2) 6912 itself ∷ []

-- 31 records are others' from the start. 9 finds the table full, takes back what is the holder's (7), and then, where the holder has, registers and takes that
-- back; a mixed token of 31 bytes is nobody's
abbrev pub taken_among : List Step
taken_among =
    crowd 31
    ++ (taking 1 1 in_stored_form ∷ step register_command 1 1 in_stored_form ∷ step register_command 9 98 itself ∷ taking 9 1 itself
    ∷ taking_with (replicate 31 1) (id 1) 6912 in_stored_form ∷ taking 1 1 in_stored_form ∷ step register_command 9 99 in_stored_form
    ∷ taking 9 99 in_stored_form ∷ step register_command 1 2 itself ∷ taking 1 1 itself ∷ step sign_command 1 2 itself
    ∷ taking 1 2 in_stored_form ∷ taking_with (owner 1) (id 2) 6911 in_stored_form ∷ taking_with (owner 1) (replicate 31 2) 6912 itself ∷ [])

abbrev sees : Result Told → Table → Seen
sees r t = record { answer = r; records = t }

-- what the holder sees of them
abbrev taken_seen : List Seen
taken_seen =
    sees (refused 7) [] ∷ registered 1 1 ∷ sees (gave done) [] ∷ registered 1 2 ∷ sees (refused 7) (key 1 2 0 ∷ []) ∷ signed 1 2
    ∷ sees (refused 7) (key 1 2 1 ∷ []) ∷ sees (refused 1) (key 1 2 1 ∷ []) ∷ sees (refused 4) (key 1 2 1 ∷ []) ∷ []

pub record MetTaking : Type 0 where
  pub conditions : Comparable (owner 1) taken taken_among
  pub holder : observe (owner 1) taken_among [] ≡ taken_seen
  pub stranger : observe (owner 9) taken_among []
      ≡ told register 0x0F ∷ sees (refused 7) [] ∷ registered 9 99 ∷ sees (gave done) [] ∷ []
  pub full : length (final taken_among []) ≡ 32

among-said : said taken_among ≡ true
unfolding computing ruling
among-said = refl

taken_of_1 : run owner_of (owner 1) taken [] ≡ record { seen = taken_seen; calls = calls_in taken; room = true; records = key 1 2 1 ∷ []; size = 1 }
unfolding computing ruling
taken_of_1 = refl

among_of_1 : run owner_of (owner 1) taken_among [] ≡ record { seen = taken_seen; calls = calls_in taken; room = true; records = key 1 2 1 ∷ []; size = 32 }
unfolding computing ruling
among_of_1 = refl

among_of_9 : (run owner_of (owner 9) taken_among []).seen ≡ told register 0x0F ∷ sees (refused 7) [] ∷ registered 9 99 ∷ sees (gave done) [] ∷ []
unfolding computing ruling
among_of_9 = refl

pub met-taking : MetTaking
unfolding computing ruling
met-taking =
    let a = in_one_run (owner 1) taken refl ∙ taken_of_1 in
    let b = in_one_run (owner 1) taken_among among-said ∙ among_of_1 in
    record {
      conditions = comparable_by taken taken_among a b refl refl refl refl refl;
      holder = ap (λ r. r.seen) b;
      stranger = ap (λ r. r.seen) (in_one_run (owner 9) taken_among among-said) ∙ among_of_9;
      full = ap (λ r. r.size) b;
    }

-- ---- without freshness, or without room, the holder can tell: quietly it registers, and in b it is told a status

-- `Comparable`, but for what is said of b's freshness and room
pub record Needed (b : List Step) (fresh-is roomy-is : Bool) (status-is : ℕ) : Type 0 where
  pub holder : length (owner 1) ≡ 32
  pub same : calls_of (owner 1) quiet ≡ calls_of (owner 1) b
  pub fresh-a : fresh [] quiet ≡ true
  pub fresh-b : fresh [] b ≡ fresh-is
  pub roomy-a : roomy (owner 1) quiet [] ≡ true
  pub roomy-b : roomy (owner 1) b [] ≡ roomy-is
  pub answer-a : first (observe (owner 1) quiet []) ≡ some (registered 1 1)
  pub answer-b : first (observe (owner 1) b []) ≡ some (told register status-is)
  pub differ : observe (owner 1) quiet [] ≡ observe (owner 1) b [] → ⊥

-- a draft is no response
told_apart : {s t : List Seen} {d r : List ℕ} {u v : Table} → first s ≡ some (record { answer = gave (wrote (draft d)); records = u })
    → first t ≡ some (record { answer = gave (wrote (response r)); records = v }) → s ≡ t → ⊥
told_apart {d = d} {r = r} p q e =
    let k : some (gave (wrote (draft d))) ≡ some (gave (wrote (response r))) = ap (Option.map (λ s. s.answer)) (sym p ∙ ap first e ∙ q) in
    impossible cc

needed : (b : List Step) (f r : Bool) (n : ℕ) → fresh [] b ≡ f → (x : Run) → true_run (owner 1) b [] ≡ x → x.calls ≡ calls_in quiet → x.room ≡ r
    → first x.seen ≡ some (told register n) → Needed b f r n
unfolding computing ruling
needed b f r n q x e c o a =
    let s : first (observe (owner 1) b []) ≡ some (told register n) = ap (λ r. first r.seen) e ∙ a in
    record {
      holder = refl;
      same = ap (λ r. r.calls) quietly ∙ sym (ap (λ r. r.calls) e ∙ c);
      fresh-a = refl;
      fresh-b = q;
      roomy-a = ap (λ r. r.room) quietly;
      roomy-b = ap (λ r. r.room) e ∙ o;
      answer-a = ap (λ r. first r.seen) quietly;
      answer-b = s;
      differ = told_apart (ap (λ r. first r.seen) quietly) s;
    }

pub freshness_needed : Needed repeated false true 0x01
unfolding computing ruling
freshness_needed = needed repeated false true 0x01 refl _ (in_one_run (owner 1) repeated refl) refl refl refl

crowded_said : said crowded ≡ true
unfolding computing ruling
crowded_said = refl

-- the holder's part, in one run
run_crowded : run owner_of (owner 1) crowded []
    ≡ record {
      seen = told register 0x0F ∷ told sign 0x02 ∷ told deregister 0x00 ∷ [];
      calls = calls_in quiet;
      room = false;
      records = [];
      size = 32;
    }
unfolding computing ruling
run_crowded = refl

pub room_needed : Needed crowded true false 0x0F
unfolding computing ruling
room_needed =
    needed crowded true false 0x0F refl _ (in_one_run (owner 1) crowded crowded_said ∙ run_crowded) refl refl refl
