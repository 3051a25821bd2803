-- The parts of a command that the writers write, and how many bytes they take.
use Rattle.std.specs.Prelude.{ℕ, zero, suc, ◌+◌, cond, List, [], ◌∷◌, length, take, drop, eqb}
use Rattle.model.specs.Tlv.{Tlv, tlv}
use Rattle.command_writer.specs.declared.marked.Marked.{Marked}

-- a field that is given, if its mark says so, and the bytes that it takes with a value of n bytes
abbrev pub given_tlvs : (tag mark : ℕ) → List ℕ → List Tlv
given_tlvs tag mark v = cond (eqb mark 1) (tlv tag v ∷ []) []

abbrev pub given_size : (mark n : ℕ) → ℕ
given_size mark n = cond (eqb mark 1) (4 + n) 0

-- the same of mark and value as they are lent
abbrev pub marked_tlvs : ℕ → Marked → List Tlv
marked_tlvs tag m = given_tlvs tag m.mark m.value.now

abbrev pub marked_size : Marked → ℕ
marked_size m = given_size m.mark (length m.value.now)

-- so many key handles that run together
unfoldable pub handle_tlvs : ℕ → List ℕ → List Tlv
handle_tlvs zero s = []
handle_tlvs (suc n) s = tlv 0x2801 (take 32 s) ∷ handle_tlvs n (drop 32 s)

-- what Register, Sign and Deregister begin with: the index and the AppID
abbrev pub opening : Marked → List Tlv
opening a = tlv 0x280D (0 ∷ []) ∷ marked_tlvs 0x2804 a
