-- The lent results and the call, from what carries them.
use Rattle.std.specs.Prelude.{ℕ, List}
use Rattle.std.proofs.Math.Option.{Option}
use Rattle.model.specs.Commands.{Lent, Call}
use Rattle.params.specs.declared.lent.Numbers.{Numbers}

abbrev pub lent_of : (aaid : List ℕ) → Numbers → (metadata key_id public_key nonce : List ℕ) → Lent
lent_of aaid n metadata key_id public_key nonce =
    record {
      aaid = aaid;
      version = n.version;
      signature_algorithm = n.signature_algorithm;
      key_algorithm = n.key_algorithm;
      metadata = metadata;
      verdict = n.verdict;
      display = n.display;
      key_id = key_id;
      public_key = public_key;
      nonce = nonce;
    }

-- the numbers among them
abbrev pub numbers_in : Lent → Numbers
numbers_in l =
    record {
      version = l.version;
      signature_algorithm = l.signature_algorithm;
      key_algorithm = l.key_algorithm;
      verdict = l.verdict;
      display = l.display;
    }

abbrev pub call : (command : List ℕ) → Lent → (output : ℕ) → Option ℕ → Call
call command l output table_output = record { command = command; lent = l; output = output; table_output = table_output }
