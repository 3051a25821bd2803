-- What a command decides: a reply and a change, which together are the model's decision.
use Rattle.std.specs.Prelude.{◌≡◌, ℕ, ◌≤◌, Bool, List, leb, length, get_or, take, Result, Ok, Err}
use Rattle.model.specs.Lists.{among}
use Rattle.model.specs.Tlv.{Kind, sign}
use Rattle.model.specs.Records as records
use Rattle.model.specs.Records.{own, key_ids, max_records}
use Rattle.model.specs.Commands as model
use Rattle.model.specs.Commands.{Lent, refused, gave, has_content, sign_one, decide}
use Rattle.params.specs.Lent.{lent_of}
use Rattle.params.specs.Parse.{ParamsRead}
use Rattle.params.specs.declared.lent.Numbers.{Numbers}
use Rattle.params.specs.declared.parse.Params.{Params}
use Rattle.stored_table.specs.Stored.{no_record}
use Rattle.stored_table.specs.Changes.{change_of, CanCount, Can}
use Rattle.stored_table.specs.declared.left.Change.{Change}
use Rattle.stored_table.specs.declared.left.Change.TheVariants.{Keep}
use Rattle.replies.specs.Replies.{answer_of, Quoted, Sound}
use Rattle.replies.specs.Statuses.{number}
use Rattle.replies.specs.declared.reply.Shape.{Shape}
use Rattle.replies.specs.declared.reply.Shape.TheVariants as shape
use Rattle.replies.specs.declared.status.Status.{Status}
use Rattle.commands.specs.declared.decision.Decision.{Decision}

-- the decision that is this reply, which names n records, and this change
abbrev pub decision : Shape → ℕ → Change → Decision
decision x n c = record { shape = x; named = n; change = c }

-- what checks gave, in the model's words: the first status that fails, or what they give where all pass
abbrev pub judged : {A : Type 0} → Result A Status → model.Result A
judged (Err x) = refused (number x)
judged (Ok v) = gave v

-- all pass, and give nothing
abbrev pub passed : model.Result (Unit {0})
passed = gave tt

-- what a command decided: where a check fails a status alone, and nothing changed
abbrev pub decided : Result Decision Status → Decision
decided (Err x) = decision (shape.Status (number x)) 0 Keep
decided (Ok d) = d

-- the numbers of the records that it names, which stand first here
abbrev pub named_by : List ℕ → Decision → List ℕ
named_by chosen d = take d.named chosen

-- the model's decision that this is, of a command s of this kind that is lent this, on this table
abbrev pub decision_of : Kind → List ℕ → Lent → records.Table → List ℕ → Decision → model.Decision
decision_of k s l t chosen d =
    record { answer = answer_of k s l t (named_by chosen d) d.shape; change = change_of s l.key_id t d.change }

-- a command s of this kind, lent these numbers, the mixed token m and the KeyID key, decides so on a table, whatever else is lent; the reply can be
-- written and the change made; c are its parameters, and the records named have the first numbers of these
pub record Decides (k : Kind) (s : List ℕ) (n : Numbers) (m key : List ℕ) (t : records.Table) (c : Params) (chosen : List ℕ)
    (d : Decision) : Type 0 where
  pub is : (aaid metadata public_key nonce : List ℕ)
      → decision_of k s (lent_of aaid n metadata key public_key nonce) t chosen d
      ≡ decide k s (lent_of aaid n metadata key public_key nonce) (own m t) (among key (key_ids t)) (leb max_records (length t))
  pub within : d.named ≤ length chosen
  pub sound : Sound k s t c (named_by chosen d) d.shape
  pub can : Can s key m t d.change

-- a command that looks at its parameters alone decides so on every table, whatever is lent
pub record DecidesAlways (k : Kind) (p : Params) (d : Decision) : Type 0 where
  pub always : (s : List ℕ) (n : Numbers) (m key : List ℕ) (t : records.Table) (chosen : List ℕ) → ParamsRead k s p
      → Decides k s n m key t p chosen d

-- Sign's decision on one record, number i, with this count: of every command with content or without, lent this display result
pub record DecidesOne (content : Bool) (display count i : ℕ) (d : Decision) : Type 0 where
  pub one : (s : List ℕ) (l : Lent) (m : List ℕ) (t : records.Table) (c : Params) (chosen : List ℕ) → has_content s ≡ content
      → l.display ≡ display → (get_or t i no_record).count ≡ count → Quoted s c → CanCount m t i
      → (decision_of sign s l t chosen d ≡ sign_one s l (get_or t i no_record)) × (d.named ≤ length chosen)
      × Sound sign s t c (named_by chosen d) d.shape × Can s l.key_id m t d.change
