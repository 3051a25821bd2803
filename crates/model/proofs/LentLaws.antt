-- Refusal 4 as the paper says it: lent_ok and completion_ok test for these lengths and numbers, both ways.
-- Assumes nothing.
use mathlib.Core.Path.{◌≡◌, refl}
use mathlib.Core.Bool.{Bool, true, ◌&&◌, ◌||◌}
use mathlib.Core.List.{List, [], ◌∷◌}
use mathlib.Core.Logic.{◌⊎◌, inl, inr}
use Prim.Native.Nat.{ℕ, ◌≤◌, ◌<◌}
use native.Mathlib.Omega.{arith}
use lib.ListN.{length}
use lib.Dec.{leb, ltb, eqb}
use borrow.Author.Tests.{leb-true, ltb-true, eqb-true, le-leb, lt-ltb, eqb-false, ne_eqb}
use Rattle.model.specs.Lists.{empty}
use Rattle.model.specs.Tlv.{Field, rule_of, fits, aaid, metadata, key_id, public_key, nonce, signature, certificate, full, surrogate, Kind, get_info, register, sign, deregister, open_settings}
use Rattle.model.specs.Commands.{Lent, profile_ok, lent_ok}
use Rattle.model.specs.Complete.{Completion, completion_ok}
use Rattle.model.proofs.Basics.{split, clash, and_left, and_right, both, either}
use Rattle.model.proofs.LayoutLaws.{fits-least, fits-most, size_fits}

-- "AAID of 9 bytes, authenticator version, signature and public-key algorithm (16 bits each), metadata of 15 bytes"
pub record ProfileRules (l : Lent) : Type 0 where
  pub aaid : length l.aaid ≡ 9
  pub metadata : length l.metadata ≡ 15
  pub version : l.version < 65536
  pub signature-algorithm : l.signature_algorithm < 65536
  pub key-algorithm : l.key_algorithm < 65536

-- "Register profile, verdict, .. KeyID, public key"
pub record RegisterRules (l : Lent) : Type 0 where
  pub profile : ProfileRules l
  pub verdict : l.verdict ≤ 5
  pub key-id : length l.key_id ≡ 32
  pub public_key-least : 1 ≤ length l.public_key
  pub public_key-most : length l.public_key ≤ 512

-- "Sign profile, verdict, display result, .. nonce"
pub record SignRules (l : Lent) : Type 0 where
  pub profile : ProfileRules l
  pub verdict : l.verdict ≤ 5
  pub display : l.display ≤ 3
  pub nonce-least : 8 ≤ length l.nonce
  pub nonce-most : length l.nonce ≤ 32

-- A4: "neither is lent and refusal 4 no longer looks at them": of mixed token and transaction hash nothing is asked, so a Deregister is never refused with 4
abbrev pub LentRules : Kind → Lent → Type 0
LentRules get_info l = ProfileRules l
LentRules register l = RegisterRules l
LentRules sign l = SignRules l
LentRules deregister l = Unit {0}
LentRules open_settings l = Unit {0}

between : (f : Field) (v : List ℕ) → fits f v ≡ true → ((rule_of f).least ≤ length v) × (length v ≤ (rule_of f).most)
between f v e = (fits-least f v e, fits-most f v e)

profile_rules : (l : Lent) → profile_ok l ≡ true → ProfileRules l
unfolding profile_ok
profile_rules l e =
    let a : fits aaid l.aaid ≡ true = search (and_left, and_right) in
    let m : fits metadata l.metadata ≡ true = search (and_left, and_right) in
    let v : ltb l.version 65536 ≡ true = search (and_left, and_right) in
    let s : ltb l.signature_algorithm 65536 ≡ true = search (and_left, and_right) in
    let k : ltb l.key_algorithm 65536 ≡ true = search (and_left, and_right) in
    omega (arith, ltb-true, between _ _ a, between _ _ m)

pub profile-ok : (l : Lent) → fits aaid l.aaid ≡ true → fits metadata l.metadata ≡ true → l.version < 65536
    → l.signature_algorithm < 65536 → l.key_algorithm < 65536 → profile_ok l ≡ true
unfolding profile_ok
profile-ok l a m v s k = both (both (both (both a m) (lt-ltb _ _ v)) (lt-ltb _ _ s)) (lt-ltb _ _ k)

obeys_profile : (l : Lent) → ProfileRules l → profile_ok l ≡ true
obeys_profile l r =
    profile-ok l (size_fits _ _ (omega arith) (omega arith) refl) (size_fits _ _ (omega arith) (omega arith) refl)
    r.version r.signature-algorithm r.key-algorithm

pub lent_rules : (k : Kind) (l : Lent) → lent_ok k l ≡ true → LentRules k l
unfolding lent_ok
lent_rules get_info l e = profile_rules l e
lent_rules register l e =
    let p : profile_ok l ≡ true = search (and_left, and_right) in
    let v : leb l.verdict 5 ≡ true = search (and_left, and_right) in
    let i : fits key_id l.key_id ≡ true = search (and_left, and_right) in
    let k : fits public_key l.public_key ≡ true = search (and_left, and_right) in
    omega (arith, leb-true, profile_rules l p, between _ _ i, between _ _ k)
lent_rules sign l e =
    let p : profile_ok l ≡ true = search (and_left, and_right) in
    let v : leb l.verdict 5 ≡ true = search (and_left, and_right) in
    let d : leb l.display 3 ≡ true = search (and_left, and_right) in
    let n : fits nonce l.nonce ≡ true = search (and_left, and_right) in
    omega (arith, leb-true, profile_rules l p, between _ _ n)
lent_rules deregister l e = tt
lent_rules open_settings l e = tt

pub lent_ok_lem : (k : Kind) (l : Lent) → LentRules k l → lent_ok k l ≡ true
unfolding lent_ok
lent_ok_lem get_info l r = obeys_profile l r
lent_ok_lem register l r =
    let i : fits key_id l.key_id ≡ true = size_fits _ _ (omega arith) (omega arith) refl in
    let k : fits public_key l.public_key ≡ true = size_fits _ _ (omega arith) (omega arith) refl in
    both (both (both (obeys_profile l r.profile) (le-leb _ _ r.verdict)) i) k
lent_ok_lem sign l r =
    let n : fits nonce l.nonce ≡ true = size_fits _ _ (omega arith) (omega arith) refl in
    both (both (both (obeys_profile l r.profile) (le-leb _ _ r.verdict)) (le-leb _ _ r.display)) n
lent_ok_lem deregister l r = refl
lent_ok_lem open_settings l r = refl

-- ---- completion

-- "one certificate of 1 to 2,048 bytes for full"
pub record FullRules (c : Completion) : Type 0 where
  pub type : c.type ≡ 0x3E07
  pub certificate-least : 1 ≤ length c.certificate
  pub certificate-most : length c.certificate ≤ 2048

-- "and an empty one for surrogate"
pub record SurrogateRules (c : Completion) : Type 0 where
  pub type : c.type ≡ 0x3E08
  pub no_certificate : c.certificate ≡ []

-- "the signature has 1 to 512 bytes and, for registration, the type is one of the two"; "Sign ignores type and certificate"
pub record CompletionRules (c : Completion) : Type 0 where
  pub signature-least : 1 ≤ length c.signature
  pub signature-most : length c.signature ≤ 512
  pub attestation : (c.kind ≡ 1 → ⊥) → FullRules c ⊎ SurrogateRules c

nothing : (v : List ℕ) → empty v ≡ true → v ≡ []
nothing [] e = refl
nothing (x ∷ v) e = clash e refl

pub completion_rules : (c : Completion) → completion_ok c ≡ true → CompletionRules c
unfolding completion_ok
completion_rules c e =
    let s : fits signature c.signature ≡ true = and_left _ _ e in
    let a : Bool = eqb c.type full && fits certificate c.certificate in
    let b : Bool = eqb c.type surrogate && empty c.certificate in
    record {
      signature-least = fits-least _ _ s;
      signature-most = fits-most _ _ s;
      attestation =
          λ n. either a b (rw (ne_eqb _ _ n) at (and_right (fits signature c.signature) _ e))
          (λ h. let w : fits certificate c.certificate ≡ true = and_right (eqb c.type full) _ h in
          inl (record { type = eqb-true _ _ (and_left _ _ h); certificate-least = fits-least _ _ w; certificate-most = fits-most _ _ w }))
          (λ h. inr (record { type = eqb-true _ _ (and_left _ _ h); no_certificate = nothing _ (and_right (eqb c.type surrogate) _ h) }));
    }

attested : (c : Completion) → FullRules c ⊎ SurrogateRules c
    → ((eqb c.type full && fits certificate c.certificate) || (eqb c.type surrogate && empty c.certificate)) ≡ true
attested c (inl r) = rw (r.type, size_fits certificate _ r.certificate-least r.certificate-most refl)
attested c (inr r) = rw (r.type, r.no_certificate)

pub completion-ok : (c : Completion) → CompletionRules c → completion_ok c ≡ true
unfolding completion_ok
completion-ok c r =
    both (size_fits signature _ r.signature-least r.signature-most refl)
    (split (eqb c.kind 1) (λ k. rw k) (λ k. rw k (attested c (r.attestation (eqb-false _ _ k)))))
