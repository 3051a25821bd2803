-- The fields lent to each writer: what is wanted, in the words of `model`, and the bytes and the children of a command whose fields obey their rules.
use Rattle.std.specs.Prelude.{ℕ, ◌+◌, ◌*◌, ◌/◌, List, [], ◌∷◌, ◌++◌, length}
use Rattle.model.specs.Tlv.{le, Tlv, tlv}
use Rattle.model.specs.Writer.{Wanted, to_register, to_sign, to_deregister}
use Rattle.command_writer.specs.Parts.{marked_tlvs, marked_size, handle_tlvs, opening}
use Rattle.command_writer.specs.declared.writers.Register.{Register}
use Rattle.command_writer.specs.declared.writers.Sign.{Sign}
use Rattle.command_writer.specs.declared.writers.Deregister.{Deregister}

module _ (r : Register) where
  abbrev pub wanted_register : Wanted
  wanted_register =
      to_register r.app_id.mark r.app_id.value.now r.challenge.now r.username.now r.attestation r.access_token.now r.verify_token.mark
      r.verify_token.value.now

  abbrev pub register_size : ℕ
  register_size =
      9 + marked_size r.app_id + (4 + length r.challenge.now) + (4 + length r.username.now) + 6 + (4 + length r.access_token.now)
      + marked_size r.verify_token

  abbrev pub register_tlvs : List Tlv
  register_tlvs =
      opening r.app_id
      ++ (tlv 0x2E0A r.challenge.now ∷ tlv 0x2806 r.username.now ∷ tlv 0x2807 (le 2 r.attestation) ∷ tlv 0x2805 r.access_token.now
      ∷ marked_tlvs 0x2803 r.verify_token)

module _ (s : Sign) where
  abbrev pub wanted_sign : Wanted
  wanted_sign =
      to_sign s.app_id.mark s.app_id.value.now s.challenge.now s.content.mark s.content.value.now s.access_token.now s.verify_token.mark
      s.verify_token.value.now s.handles.now s.handle_sizes.now

  abbrev pub sign_size : ℕ
  sign_size =
      9 + marked_size s.app_id + (4 + length s.challenge.now) + marked_size s.content + (4 + length s.access_token.now)
      + marked_size s.verify_token + 36 * (length s.handles.now / 32)

  abbrev pub sign_tlvs : List Tlv
  sign_tlvs =
      opening s.app_id
      ++ (tlv 0x2E0A s.challenge.now ∷ marked_tlvs 0x2810 s.content
      ++ (tlv 0x2805 s.access_token.now ∷ marked_tlvs 0x2803 s.verify_token ++ handle_tlvs (length s.handles.now / 32) s.handles.now))

module _ (d : Deregister) where
  abbrev pub wanted_deregister : Wanted
  wanted_deregister = to_deregister d.app_id.mark d.app_id.value.now d.key_id.now d.access_token.now

  abbrev pub deregister_size : ℕ
  deregister_size = 9 + marked_size d.app_id + (4 + length d.key_id.now) + (4 + length d.access_token.now)

  abbrev pub deregister_tlvs : List Tlv
  deregister_tlvs = opening d.app_id ++ (tlv 0x2E09 d.key_id.now ∷ tlv 0x2805 d.access_token.now ∷ [])
