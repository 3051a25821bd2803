-- The changes that a command asks for, and what they leave.
use Rattle.std.specs.Prelude.{◌≡◌, ℕ, suc, ◌≤◌, ◌<◌, Bool, true, not, cond, ◌&&◌, ◌||◌, List, [], ◌∷◌, length, get_or}
use Rattle.model.specs.Lists.{select, empty, eq_bytes}
use Rattle.model.specs.Records as model
use Rattle.model.specs.Records.{has_mixed, encode}
use Rattle.model.specs.Commands as commands
use Rattle.tlv.specs.Heads.{part}
use Rattle.tlv.specs.Spans.{Inside}
use Rattle.tlv.specs.declared.heads.Span.{Span}
use Rattle.stored_table.specs.Stored.{no_record}
use Rattle.stored_table.specs.declared.left.Change.{Change}
use Rattle.stored_table.specs.declared.left.Change.TheVariants.{Keep, Add, SetCount, Remove}

-- "An empty KeyID removes all records of the mixed token"
abbrev pub removal : List ℕ → commands.Change
removal key = cond (empty key) commands.remove_all (commands.remove key)

-- a record goes: it is the mixed token's and, unless the KeyID is empty, has the KeyID
abbrev pub goes : List ℕ → List ℕ → model.Record → Bool
goes m key r = has_mixed m r && (empty key || eq_bytes r.key_id key)

-- the stored form of those of these records that stay
unfoldable pub staying_of : (mixed key : List ℕ) → model.Table → List ℕ
staying_of m key rs = encode (select (λ r. not (goes m key r)) rs)

-- how many of these records stay before the first that goes
unfoldable pub stay_first : (mixed key : List ℕ) → model.Table → ℕ
stay_first m key [] = 0
stay_first m key (r ∷ rs) = cond (goes m key r) 0 (suc (stay_first m key rs))

-- the change that a command s, lent the KeyID k, asks of a table
abbrev pub change_of : List ℕ → List ℕ → model.Table → Change → commands.Change
change_of s k t Keep = commands.keep
change_of s k t (Add p) = commands.add k (part s p)
change_of s k t (SetCount i n) = commands.set_count (get_or t i no_record).key_id n
change_of s k t (Remove p) = removal (part s p)

-- a change can be made, where m is the mixed token lent: a record added, a count set, and by the change
pub record CanAdd (s k m : List ℕ) (t : model.Table) (p : Span) : Type 0 where
  pub inside : Inside s p
  pub short : length (part s p) ≤ 128
  pub key-id : length k ≡ 32
  pub mixed : length m ≡ 32
  pub place : length t < 32

pub record CanCount (m : List ℕ) (t : model.Table) (i : ℕ) : Type 0 where
  pub there : i < length t
  pub mine : has_mixed m (get_or t i no_record) ≡ true

abbrev pub Can : List ℕ → List ℕ → List ℕ → model.Table → Change → Type 0
Can s k m t Keep = Unit {0}
Can s k m t (Add p) = CanAdd s k m t p
Can s k m t (SetCount i n) = CanCount m t i
Can s k m t (Remove p) = Inside s p
