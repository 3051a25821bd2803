-- Document 01, "Two afternoons": an afternoon is called a trace here.
use Rattle.std.specs.Prelude.{ℕ, ◌≡◌, Bool, true, false, not, cond, ◌&&◌, List, [], ◌∷◌, map, length, ltb}
use Rattle.std.proofs.Math.Option.{Option, none, some}
use Rattle.model.specs.Lists.{select, eq_bytes, among}
use Rattle.model.specs.Tlv.{Kind, get_info, register, sign, deregister, open_settings, is_command, broken, fits, mixed_token}
use Rattle.model.specs.Records.{Table, own, encode, max_records}
use Rattle.model.specs.Commands.{Call, Given, value, stored, mixed_of, kind, Result, refused, gave, on_gave, Answer, outcome}
use Rattle.model.specs.Withdrawals.{Withdrawal, withdraw}

-- a call is a command or, by A5, a withdrawal, which "counts as a command of its holder and stands in afternoons"
pub data Act : Type 0 where
  commands : Call → Act
  withdraws : Withdrawal → Act

-- and how it is handed the table: "itself or in its stored form"
pub data Form : Type 0 where
  itself in_stored_form : Form

pub record Step : Type 0 where
  pub act : Act
  pub form : Form

abbrev pub handed : Form → Table → Given
handed itself t = value t
handed in_stored_form t = stored (encode t)

-- ---- what is asked of every kind of call

-- its outcome: what its holder is told, and the table left. Told of a command is "whether it wrote a response or a draft, the length and every byte
-- of it"; of a withdrawal, which "writes no response", that it is done
pub data Told : Type 0 where
  wrote : Answer → Told
  done : Told

pub record Outcome : Type 0 where
  pub told : Told
  pub left : Table

abbrev pub outcome_of : Act → Given → Result Outcome
outcome_of (commands c) g = on_gave (λ e. record { told = wrote e.answer; left = e.left }) (outcome c g)
outcome_of (withdraws w) g = on_gave (λ t. record { told = done; left = t }) (withdraw w g)

-- A4: "A holder's commands are now those, 0x08 aside, whose token and AppID give its hash", whatever they answer. GetInfo and Open settings have no
-- access token, so they are strangers' calls, and so are bytes that are no command
abbrev pub has_token : Kind → Bool
has_token get_info = false
has_token register = true
has_token sign = true
has_token deregister = true
has_token open_settings = false

unfoldable pub is_holders : Call → Bool
is_holders c = has_token (kind c) && not (broken (kind c) c.command)

-- its owner, by whose mixed token it is; none of a stranger's call. A withdrawal is the holder's whose mixed token it is lent
abbrev pub owner : Act → Option (List ℕ)
owner (commands c) = cond (is_holders c) (some (mixed_of c)) none
owner (withdraws w) = cond (fits mixed_token w.mixed) (some w.mixed) none

-- whether it is a Register, which "is one by its outer tag, refused or not"; and the KeyID lent, which counts for freshness if it is one. A withdrawal
-- is none
abbrev pub registers : Act → Bool
registers (commands c) = is_command c.command register
registers (withdraws w) = false

abbrev pub key_lent : Act → List ℕ
key_lent (commands c) = c.lent.key_id
key_lent (withdraws w) = w.key_id

-- ---- a trace

unfoldable pub result : Step → Table → Result Outcome
result s t = outcome_of s.act (handed s.form t)

-- "each later one the table that the last one left ..; after a refusal that is the one the refused call was given"
abbrev pub left_by : Result Outcome → Table → Table
left_by (refused n) t = t
left_by (gave o) t = o.left

unfoldable pub next : Step → Table → Table
next s t = left_by (result s t) t

unfoldable pub final : List Step → Table → Table
final [] t = t
final (s ∷ ss) t = final ss (next s t)

abbrev pub is_holder : List ℕ → Option (List ℕ) → Bool
is_holder h none = false
is_holder h (some m) = eq_bytes m h

abbrev pub is_of : List ℕ → Step → Bool
is_of h s = is_holder h (owner s.act)

unfoldable pub calls_of : List ℕ → List Step → List Act
calls_of h ss = map (λ s. s.act) (select (is_of h) ss)

-- "Compared .. are the refusal number, or else" what is told, and the holder's records "after each of its commands"
pub record Seen : Type 0 where
  pub answer : Result Told
  pub records : Table

unfoldable pub observe : List ℕ → List Step → Table → List Seen
observe h [] t = []
observe h (s ∷ ss) t =
    let rest = observe h ss (next s t) in
    cond (is_of h s) (record { answer = on_gave (λ o. o.told) (result s t); records = own h (next s t) } ∷ rest) rest

-- each Register "is lent a KeyID that no earlier one was lent"; seen: those lent so far
unfoldable pub fresh : List (List ℕ) → List Step → Bool
fresh seen [] = true
fresh seen (s ∷ ss) =
    let k = key_lent s.act in
    not (registers s.act && among k seen) && fresh (cond (registers s.act) (k ∷ seen) seen) ss

-- "the table never has 32 records when this holder registers"
unfoldable pub roomy : List ℕ → List Step → Table → Bool
roomy h [] t = true
roomy h (s ∷ ss) t = cond (is_of h s && registers s.act) (ltb (length t) max_records) true && roomy h ss (next s t)

-- ---- demand 3, the separation of holders: "one claim about two whole afternoons", each from the empty table

-- the holder "gives the same commands, lent results and output lengths in the same order in both"
pub record Comparable (h : List ℕ) (a b : List Step) : Type 0 where
  pub holder : length h ≡ 32
  pub same : calls_of h a ≡ calls_of h b
  pub fresh-a : fresh [] a ≡ true
  pub fresh-b : fresh [] b ≡ true
  pub roomy-a : roomy h a [] ≡ true
  pub roomy-b : roomy h b [] ≡ true

-- "its answers .. are the same, and so are its records and their order after each of its commands and at the end"
pub record Indistinguishable (h : List ℕ) (a b : List Step) : Type 0 where
  pub seen : observe h a [] ≡ observe h b []
  pub records : own h (final a []) ≡ own h (final b [])

abbrev pub SeparationOfHolders : Type 0
SeparationOfHolders = (h : List ℕ) (a b : List Step) → Comparable h a b → Indistinguishable h a b
