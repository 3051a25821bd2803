-- Request A4 of document 02: SHA-256 of the messages whose digests are published with FIPS 180-4, computed by the definition.
-- Assumes nothing.
use mathlib.Core.Path.{◌≡◌, refl}
use mathlib.Core.List.{List, [], ◌∷◌, ◌++◌}
use Prim.Native.Nat.{ℕ, zero, suc}
use Rattle.model.specs.Sha256.{be, sha256}
use Rattle.model.proofs.Computing.{hashing}

-- n letters of the alphabet, from a on
abbrev letters : ℕ → ℕ → List ℕ
letters zero a = []
letters (suc n) a = a ∷ letters n (suc a)

-- k runs of n letters, each a letter further on
abbrev runs : ℕ → ℕ → ℕ → List ℕ
runs zero n a = []
runs (suc k) n a = letters n a ++ runs k n (suc a)

-- the message of no bits
pub hash_of_none : sha256 [] ≡ be 32 0xe3b0c44298fc1c149afbf4c8996fb92427ae41e4649b934ca495991b7852b855
unfolding hashing
hash_of_none = refl

-- "abc", one block
pub hash_of_abc : sha256 (letters 3 0x61) ≡ be 32 0xba7816bf8f01cfea414140de5dae2223b00361a396177a9cb410ff61f20015ad
unfolding hashing
hash_of_abc = refl

-- 448 bits, "abcdbcdecdef..nopq", two blocks: behind the message there is no room for its length
pub hash_of_fours : sha256 (runs 14 4 0x61) ≡ be 32 0x248d6a61d20638b8e5c026930c3e6039a33ce45964ff2167f6ecedd419db06c1
unfolding hashing
hash_of_fours = refl

-- 896 bits, "abcdefghbcdefghi..nopqrstu", two blocks
pub hash_of_eights : sha256 (runs 14 8 0x61) ≡ be 32 0xcf5b16a778af8380036ce59e7b0492370b249b11e8f07a51afac45037afee9d1
unfolding hashing
hash_of_eights = refl
