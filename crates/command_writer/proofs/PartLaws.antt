-- What the writers wrote: the parts of a command, one after another.
-- Assumes nothing.
use mathlib.Core.Path.{◌≡◌, sym, ap, ◌∙◌}
use mathlib.Core.List.{List, [], ◌∷◌, ◌++◌, append_assoc}
use Prim.Native.Nat.{ℕ, ◌+◌, ◌*◌, ◌-◌, ◌≤◌}
use native.Mathlib.Omega.{arith}
use lib.ListN.{length, take, drop, length-append, length-drop}
use lib.Seq.{take_at, drop_at, drop-drop}
use borrow.Author.Tests.{eq-eqb, ne_eqb}
use Rattle.model.specs.Tlv.{le, Tlv, tlv, header, bytes, Kind, command_tag}
use Rattle.model.specs.Writer.{command}
use Rattle.model.proofs.Tlvs.{bytes-append, bytes_one}
use Rattle.tlv.specs.Writing.{Wrote}
use Rattle.tlv.proofs.WriteLaws.{then, then_run, same, wrote_none}
use Rattle.command_writer.specs.Parts.{given_tlvs, given_size, handle_tlvs}
use Rattle.command_writer.proofs.HandleLaws.{handle_more}

module _ {d d₁ d₂ : List ℕ} {n m len r₁ r₂ : ℕ} (k : Kind) (ts us : List Tlv) where
  -- the header of a command of len bytes with its first children, and the others
  pub opened : Wrote d 0 (header (command_tag k) (len - 4) ++ bytes ts) n d₁ r₁ → Wrote d₁ r₁ (bytes us) m d₂ r₂ → len ≡ n + m
      → Wrote d 0 (command k (ts ++ us)) len d₂ r₂
  unfolding le
  opened p q e =
      let h : length (bytes (ts ++ us)) ≡ len - 4 =
      rw (bytes-append ts us, length-append (bytes ts) (bytes us))
      (omega (arith, p.size, q.size, length-append (header (command_tag k) (len - 4)) (bytes ts))) in
      same
      (append_assoc (header (command_tag k) (len - 4)) (bytes ts) (bytes us)
      ∙ rw (bytes_one (command_tag k) (len - 4) (bytes (ts ++ us)) h, bytes-append ts us))
      (sym e) (then p q)

module _ {d : List ℕ} {at mark : ℕ} (tag : ℕ) (v : List ℕ) where
  -- a field that is given, and one that is not
  pub wrote-given : {d' : List ℕ} {r : ℕ} → mark ≡ 1 → Wrote d at (bytes (tlv tag v ∷ [])) (4 + length v) d' r
      → Wrote d at (bytes (given_tlvs tag mark v)) (given_size mark (length v)) d' r
  wrote-given e p = rw (eq-eqb mark 1 e) p

  pub wrote-not-given : (mark ≡ 1 → ⊥) → at + given_size mark (length v) ≤ length d
      → Wrote d at (bytes (given_tlvs tag mark v)) (given_size mark (length v)) d at
  unfolding bytes
  wrote-not-given e h = rw (ne_eqb mark 1 e) (wrote_none d at (omega arith))

pub given-size : (mark n : ℕ) → mark ≡ 1 → given_size mark n ≡ 4 + n
given-size mark n e = rw (eq-eqb mark 1 e)

-- a field that may be left away, by its mark
pub ruleset marked_written = (given-size, wrote-given, wrote-not-given)

-- key handles: none yet, and one more
pub no_handles : (d : List ℕ) (at : ℕ) (s : List ℕ) → at ≤ length d → Wrote d at (bytes (handle_tlvs 0 s)) 0 d at
unfolding handle_tlvs bytes
no_handles d at s h = wrote_none d at h

-- v stands before what is left of s after n handles
module _ (n : ℕ) (s v rest : List ℕ) (e : v ++ rest ≡ drop (32 * n) s) (l : length v ≡ 32) where
  handle_first : v ≡ take 32 (drop (32 * n) s)
  handle_first = sym (take_at v rest 32 l) ∙ ap (take 32) e

  pub handle_rest : rest ≡ drop (32 * (n + 1)) s
  handle_rest = sym (drop_at v rest 32 l) ∙ ap (drop 32) e ∙ drop-drop 32 (32 * n) s ∙ ap (λ m. drop m s) (omega arith)

  pub handle_whole : 32 * (n + 1) ≤ length s
  handle_whole = omega (arith, length-drop (32 * n) s, ap length e, length-append v rest)

  pub one_handle : {d d₁ d₂ : List ℕ} {at r₁ r₂ : ℕ} → Wrote d at (bytes (handle_tlvs n s)) (36 * n) d₁ r₁
      → Wrote d₁ r₁ (bytes (tlv 0x2801 v ∷ [])) (4 + length v) d₂ r₂ → Wrote d at (bytes (handle_tlvs (n + 1) s)) (36 * (n + 1)) d₂ r₂
  one_handle {d₁ = d₁} {d₂ = d₂} {r₁ = r₁} {r₂ = r₂} p q =
      let w : Wrote d₁ r₁ (bytes (tlv 0x2801 (take 32 (drop (32 * n) s)) ∷ [])) (4 + length v) d₂ r₂ = rw (← handle_first) q in
      same (sym (ap bytes (handle_more n s))) (omega arith) (then_run (handle_tlvs n s) (tlv 0x2801 (take 32 (drop (32 * n) s)) ∷ []) p w)
