-- The writers' sums: they are the command's length, and the children written are those of its list.
-- Assumes nothing.
use mathlib.Core.Path.{◌≡◌, refl, ap, ◌∙◌}
use mathlib.Core.List.{List, [], ◌∷◌, append-nil}
use Prim.Native.Nat.{ℕ, ◌+◌, ◌/◌, ◌≤◌}
use native.Mathlib.Omega.{arith}
use lib.ListN.{length}
use Rattle.std.specs.Prelude.{Ok, Err}
use Rattle.model.specs.Tlv.{Tlv, tlv, max_command, app_id, challenge_hash, username, attestation_type, access_token, key_handle, key_id_or_none, user_verify_token, transaction_content, mandatory, optional, up_to}
use Rattle.model.specs.Writer.{one, marked, number, pieces, to_open_settings, wanted_values, command, children_for, command_of, Wanted, wanted_kind, write_command, to_get_info}
use Rattle.model.specs.Commands.{gave}
use Rattle.tlv.specs.Writing.{Wrote}
use Rattle.fields.specs.Refusals.{ended, ends}
use Rattle.fields.proofs.RefusalLaws.{ends-refused, ends-wrote}
use Rattle.fields.specs.declared.refusals.Refusal.{Refusal}
use Rattle.command_writer.specs.Lengths.{takes, takes_all, Counts, check_len}
use Rattle.command_writer.specs.Fields.{wanted_register, register_size, register_tlvs, wanted_sign, sign_size, sign_tlvs}
use Rattle.command_writer.specs.Fields.{wanted_deregister, deregister_size, deregister_tlvs}
use Rattle.command_writer.specs.declared.writers.Register.{Register}
use Rattle.command_writer.specs.declared.writers.Sign.{Sign}
use Rattle.command_writer.specs.declared.writers.Deregister.{Deregister}
use Rattle.command_writer.proofs.LengthLaws.{one_size, marked-size, marked-tlvs, number_size, number-tlvs, index-takes, refuses, accepts, writes}
use Rattle.command_writer.proofs.HandleLaws.{handles-size, handles-take, handles-children}

-- ---- what each command's sum counts

pub info_counts : Counts to_get_info 4 4 []
unfolding takes_all command_of children_for
info_counts = record { total = refl; sizes = λ m. refl; children = λ m. refl }

-- the index alone
pub settings_counts : Counts to_open_settings 9 9 (tlv 0x280D (0 ∷ []) ∷ [])
unfolding takes_all command_of children_for
settings_counts = record { total = omega (arith, index-takes); sizes = λ m. refl; children = λ m. refl }

pub register_counts : (r : Register) {x₁ x₂ x₃ x₄ x₅ x₆ : ℕ}
    → x₁ ≡ 9 + takes (optional app_id) (marked r.app_id.mark r.app_id.value.now) → x₂ ≡ takes (mandatory challenge_hash) (one r.challenge.now)
    → x₃ ≡ takes (mandatory username) (one r.username.now) → x₄ ≡ takes (mandatory attestation_type) (number r.attestation)
    → x₅ ≡ takes (mandatory access_token) (one r.access_token.now)
    → x₆ ≡ takes (optional user_verify_token) (marked r.verify_token.mark r.verify_token.value.now)
    → Counts (wanted_register r) (x₁ + x₂ + x₃ + x₄ + x₅ + x₆) (register_size r) (register_tlvs r)
unfolding takes_all command_of children_for
register_counts r e₁ e₂ e₃ e₄ e₅ e₆ =
    record {
      total = omega (arith, index-takes);
      sizes = λ m.
          omega (
            arith,
            marked-size app_id r.app_id.value.now r.app_id.mark (omega arith),
            one_size challenge_hash r.challenge.now (omega arith),
            one_size username r.username.now (omega arith),
            number_size r.attestation (omega arith),
            one_size access_token r.access_token.now (omega arith),
            marked-size user_verify_token r.verify_token.value.now r.verify_token.mark (omega arith),
          );
      children = λ m.
          rw (
            marked-tlvs app_id r.app_id.value.now r.app_id.mark,
            number-tlvs r.attestation (omega arith),
            marked-tlvs user_verify_token r.verify_token.value.now r.verify_token.mark,
            append-nil,
          );
    }

pub sign_counts : (s : Sign) {x₁ x₂ x₃ x₄ x₅ x₆ : ℕ}
    → x₁ ≡ 9 + takes (optional app_id) (marked s.app_id.mark s.app_id.value.now) → x₂ ≡ takes (mandatory challenge_hash) (one s.challenge.now)
    → x₃ ≡ takes (optional transaction_content) (marked s.content.mark s.content.value.now)
    → x₄ ≡ takes (mandatory access_token) (one s.access_token.now)
    → x₅ ≡ takes (optional user_verify_token) (marked s.verify_token.mark s.verify_token.value.now)
    → x₆ ≡ takes (up_to 8 key_handle) (pieces s.handle_sizes.now s.handles.now)
    → Counts (wanted_sign s) (x₁ + x₂ + x₃ + x₄ + x₅ + x₆) (sign_size s) (sign_tlvs s)
unfolding takes_all command_of children_for
sign_counts s e₁ e₂ e₃ e₄ e₅ e₆ =
    let ns : List ℕ = s.handle_sizes.now in
    let hs : List ℕ = s.handles.now in
    record {
      total = omega (arith, index-takes);
      sizes = λ m.
          let h = handles-size ns hs (omega arith) in
          omega (
            arith,
            marked-size app_id s.app_id.value.now s.app_id.mark (omega arith),
            one_size challenge_hash s.challenge.now (omega arith),
            marked-size transaction_content s.content.value.now s.content.mark (omega arith),
            one_size access_token s.access_token.now (omega arith),
            marked-size user_verify_token s.verify_token.value.now s.verify_token.mark (omega arith),
            handles-take ns hs h.1 h.2 h.0,
            h.2,
          );
      children = λ m.
          let h = handles-size ns hs (omega arith) in
          let z : length hs / 32 ≡ length ns = omega (arith, h.2) in
          rw (
            z,
            marked-tlvs app_id s.app_id.value.now s.app_id.mark,
            marked-tlvs transaction_content s.content.value.now s.content.mark,
            marked-tlvs user_verify_token s.verify_token.value.now s.verify_token.mark,
            handles-children ns hs h.1 h.2,
            append-nil,
          );
    }

pub deregister_counts : (d : Deregister) {x₁ x₂ x₃ : ℕ} → x₁ ≡ 9 + takes (optional app_id) (marked d.app_id.mark d.app_id.value.now)
    → x₂ ≡ takes (mandatory key_id_or_none) (one d.key_id.now) → x₃ ≡ takes (mandatory access_token) (one d.access_token.now)
    → Counts (wanted_deregister d) (x₁ + x₂ + x₃) (deregister_size d) (deregister_tlvs d)
unfolding takes_all command_of children_for
deregister_counts d e₁ e₂ e₃ =
    record {
      total = omega (arith, index-takes);
      sizes = λ m.
          omega (
            arith,
            marked-size app_id d.app_id.value.now d.app_id.mark (omega arith),
            one_size key_id_or_none d.key_id.now (omega arith),
            one_size access_token d.access_token.now (omega arith),
          );
      children = λ m. rw (marked-tlvs app_id d.app_id.value.now d.app_id.mark);
    }

-- ---- what a writer says by its sum

module _ {w : Wanted} {n size : ℕ} {ts : List Tlv} (c : Counts w n size ts) where
  pub count_refuses : {out : List ℕ} (r : Refusal) → Err r ≡ check_len n (length out) → ended (Err r) out ≡ ends (write_command w (length out)) out
  count_refuses {out} r e = ends-refused r (refuses (wanted_kind w) (wanted_values w) c.total (length out) r e)

  accepted : {room : ℕ} {u : Unit {0}} → Ok u ≡ check_len n room → (n ≤ max_command) × (n ≤ room)
  accepted e = accepts (wanted_kind w) (wanted_values w) c.total _ e

  pub count_room : {room : ℕ} {u : Unit {0}} → Ok u ≡ check_len n room → (n ≡ size) × (n ≤ room)
  count_room e = let a = accepted e in (c.sizes a.0, a.1)

  pub count_writes : {out out' : List ℕ} {r : ℕ} {u : Unit {0}} → Ok u ≡ check_len n (length out)
      → Wrote out 0 (command (wanted_kind w) ts) n out' r → ended (Ok r) out' ≡ ends (write_command w (length out)) out
  count_writes {out} e p =
      ends-wrote (writes (wanted_kind w) (wanted_values w) c.total (length out) e ∙ ap gave (c.children (accepted e).0)) p
