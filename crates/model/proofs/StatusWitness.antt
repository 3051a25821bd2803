-- Each status that the reader takes is one that its command gives.
-- Assumes nothing.
use mathlib.Core.Path.{◌≡◌, refl, ap, ◌∙◌}
use mathlib.Core.Bool.{Bool, true}
use mathlib.Core.List.{List, [], ◌∷◌, map}
use Prim.Native.Nat.{ℕ, zero, suc, ◌≤◌, ◌<◌}
use native.Mathlib.Omega.{arith}
use mathlib.Core.Logic.{inl}
use lib.ListN.{length, replicate}
use lib.Dec.{leb, ltb}
use borrow.Author.Tests.{ltb-true}
use Rattle.model.specs.Lists.{all, eq_bytes, among, distinct}
use Rattle.model.specs.Utf8.{follow, utf8_after}
use Rattle.model.specs.Tlv.{Bytes, Tlv, Kind, get_info, register, sign, deregister, open_settings, index, access_token, key_id_or_none, le, full, fits}
use Rattle.model.specs.Layouts.{write}
use Rattle.model.specs.Records.{Table, has_mixed, key_ids, own, record_ok, table_ok, max_count}
use Rattle.model.specs.Commands.{statuses, Call, mixed_in, lent_ok, sign_chosen, perform, Result, refused, gave, Effect, Answer, response, status_only, value, outcome}
use Rattle.model.proofs.Basics.{either, clash, and_left, and_right, both, eq_bytes-eq, eq_bytes-refl, length-select, impossible, Each}
use Rattle.model.specs.Writer.{command}
use Rattle.model.proofs.HashLaws.{mixed-bytes, mixed-fits}
use Rattle.model.proofs.Numbers.{bytes_le}
use Rattle.model.proofs.Tlvs.{Held}
use Rattle.model.proofs.Rules.{tested}
use Rattle.model.proofs.Edges.{no_place}
use Rattle.model.proofs.LayoutLaws.{AllBytes}
use Rattle.model.proofs.Witness.{Answered, record_parts, stretches, zeros, byte, token, zero-bytes, child, calling, lending_zeros, registering, signing, kind-command, calling_gives}
use Rattle.model.proofs.DraftWitness.{sign_chooses}
use Rattle.model.proofs.Computing.{computing, answered}

-- ---- the caller's records

-- with these KeyIDs and this count; s is its command, the lent KeyID is 0
abbrev records : List ℕ → List ℕ → ℕ → Table
records s ks c = map (λ k. record { key_id = replicate 32 k; mixed = mixed_in s; name = byte; count = c }) ks

module _ (s : List ℕ) (c : ℕ) where
  own-all : (ks : List ℕ) → own (mixed_in s) (records s ks c) ≡ records s ks c
  unfolding own
  own-all [] = refl
  own-all (k ∷ ks) = rw (eq_bytes-refl (mixed_in s), own-all ks)

  each-ok : leb c max_count ≡ true → (ks : List ℕ) → all record_ok (records s ks c) ≡ true
  unfolding record_ok fits follow utf8_after
  each-ok e [] = refl
  each-ok e (k ∷ ks) = both (both (both (both refl (mixed-fits s)) refl) e) (each-ok e ks)

  records-ok : leb c max_count ≡ true → (ks : List ℕ) → length (records s ks c) ≤ 8 → distinct (key_ids (records s ks c)) ≡ true
      → table_ok (records s ks c) ≡ true
  unfolding own
  records-ok e ks n d =
      let t = records s ks c in
      tested t record { few = omega arith; each = each-ok e ks; own-few = λ m. omega (arith, length-select (has_mixed m) t); once = d }

  records-bytes : (ks : List ℕ) → all (λ k. ltb k 256) ks ≡ true → AllBytes (record_parts (records s ks c))
  records-bytes [] e = tt
  records-bytes (k ∷ ks) e =
      (replicated k (ltb-true k 256 (and_left (ltb k 256) _ e)) 32, (mixed-bytes s, (zero-bytes 1, records-bytes ks (and_right (ltb k 256) _ e))))
    where
      replicated : (k : ℕ) → k < 256 → (n : ℕ) → Bytes (replicate n k)
      replicated k h zero = tt
      replicated k h (suc n) = (h, replicated k h n)

-- ---- commands that are answered with a status whatever the caller's mixed token is

-- a try: the status wanted, the command's children, the verdict, the display result, and the table
record Try : Type 0 where
  status : ℕ
  holds : List Tlv
  verdict : ℕ
  display : ℕ
  table : Table

abbrev try : ℕ → List Tlv → ℕ → ℕ → Table → Try
try n ts v d t = record { status = n; holds = ts; verdict = v; display = d; table = t }

abbrev call : Kind → Try → Call
call k r = calling k r.holds (lending_zeros r.verdict r.display)

-- a record with the lent KeyID
abbrev strangers : Table
strangers = record { key_id = zeros 32; mixed = zeros 32; name = byte; count = 0 } ∷ []

abbrev removing : List ℕ → List Tlv
removing k = child index byte ∷ child key_id_or_none k ∷ child access_token token ∷ []

-- a try for each such status
abbrev tries : Kind → List Try
tries get_info = try 0x08 (child index byte ∷ []) 0 0 [] ∷ []
tries register =
    try 0x01 (registering byte full) 0 0 strangers
    ∷ try 0x02 (registering byte full) 1 0 []
    ∷ try 0x03 (registering byte full) 2 0 []
    ∷ try 0x05 (registering byte full) 3 0 []
    ∷ try 0x07 (registering byte 0) 0 0 []
    ∷ try 0x08 [] 0 0 []
    ∷ try 0x0E (registering byte full) 4 0 []
    ∷ try 0x10 (registering byte full) 5 0 []
    ∷ []
tries sign =
    try 0x02 (signing byte byte) 0 0 []
    ∷ try 0x03 (signing byte byte) 2 0 []
    ∷ try 0x08 [] 0 0 []
    ∷ try 0x10 (signing byte byte) 5 0 []
    ∷ []
tries deregister =
    try 0x00 (removing []) 0 0 [] ∷ try 0x02 (removing (zeros 32)) 0 0 [] ∷ try 0x08 [] 0 0 [] ∷ []
tries open_settings = try 0x06 (child index byte ∷ []) 0 0 [] ∷ try 0x08 [] 0 0 [] ∷ []

abbrev alone : Kind → List ℕ → Answer
alone k v = response (write (status_only k) (v ∷ []))

abbrev wanted : Kind → Try → Result Answer
wanted k r = gave (alone k (le 2 r.status))

abbrev tried : Kind → Try → Result Answer
tried k r = answered (outcome (call k r) (value r.table))

-- every number that a try hands over is a byte
abbrev in_bytes : Kind → Try → Bool
in_bytes k r = all (λ v. all (λ b. ltb b 256) v) (stretches (call k r) r.table)

-- each try gives what is wanted
tries_give : (k : Kind) → (map (tried k) (tries k) ≡ map (wanted k) (tries k)) × (all (in_bytes k) (tries k) ≡ true)
unfolding computing
tries_give get_info = (refl, refl)
tries_give register = (refl, refl)
tries_give sign = (refl, refl)
tries_give deregister = (refl, refl)
tries_give open_settings = (refl, refl)

small_bytes : (s : List ℕ) → all (λ b. ltb b 256) s ≡ true → Bytes s
small_bytes [] e = tt
small_bytes (b ∷ s) e = (ltb-true _ _ (and_left (ltb b 256) _ e), small_bytes s (and_right (ltb b 256) _ e))

small_all : (vs : List (List ℕ)) → all (λ v. all (λ b. ltb b 256) v) vs ≡ true → AllBytes vs
small_all [] e = tt
small_all (v ∷ vs) e =
    let p = all (λ b. ltb b 256) v in
    (small_bytes v (and_left p _ e), small_all vs (and_right p _ e))

answered_by : (k : Kind) (r : Try) (a : Answer) → in_bytes k r ≡ true → tried k r ≡ gave a → Answered k a
answered_by k r a b h = go (outcome (call k r) (value r.table)) refl h
  where
    go : (o : Result Effect) → outcome (call k r) (value r.table) ≡ o → answered o ≡ gave a → Answered k a
    go (refused n) e h = impossible cc
    go (gave x) e h =
        record {
          call = call k r;
          table = r.table;
          inputs = small_all (stretches (call k r) r.table) b;
          effect = x;
          kind = kind-command k r.holds;
          gives = e;
          answers = cc;
        }

computed : (k : Kind) (rs : List Try) → map (tried k) rs ≡ map (wanted k) rs → all (in_bytes k) rs ≡ true
    → Each (λ r. Answered k (alone k (le 2 r.status))) rs
computed k [] e b = tt
computed k (r ∷ rs) e b =
    (answered_by k r (alone k (le 2 r.status)) (and_left (in_bytes k r) _ b) (cc), computed k rs (cc) (and_right (in_bytes k r) _ b))

-- ---- those for which the caller has records

-- a command with these children, lent a display result, is answered so on records of its holder with these KeyIDs and this count
recorded : (k : Kind) (ts : List Tlv) (display count n : ℕ) (ks : List ℕ) → Held ts → lent_ok k (lending_zeros 0 display) ≡ true
    → leb count max_count ≡ true → length (records (command k ts) ks count) ≤ 8 → distinct (key_ids (records (command k ts) ks count)) ≡ true
    → all (λ k. ltb k 256) ks ≡ true
    → (perform k (calling k ts (lending_zeros 0 display)) (records (command k ts) ks count)).answer ≡ alone k (le 2 n)
    → Answered k (alone k (le 2 n))
recorded k ts display count n ks h l c few once small p =
    let z = zero-bytes in
    let s = command k ts in
    calling_gives k ts (lending_zeros 0 display) (records s ks count) _ h (z 9, (z 15, (z 32, (z 1, (z 8, records-bytes s count ks small)))))
    l (records-ok s count c ks few once) p

-- eight are there
full-register : Answered register (alone register (le 2 0x0F))
unfolding computing
full-register =
    let z = zero-bytes in
    let s = command register (registering byte full) in
    let ks : List ℕ = 1 ∷ 2 ∷ 3 ∷ 4 ∷ 5 ∷ 6 ∷ 7 ∷ 8 ∷ [] in
    let o : 8 ≤ length (own (mixed_in s) (records s ks 0)) = rw (own-all s 0 ks) (omega arith) in
    recorded register (registering byte full) 0 0 0x0F ks (z 1, (z 1, (z 1, (bytes_le 2 full, (z 32, tt))))) refl refl (omega arith) refl refl
    (ap (λ (e : Effect). e.answer)
    (no_place (calling register (registering byte full) (lending_zeros 0 0)) (records s ks 0)
    (record { sound = refl; verified = refl; supported = refl }) refl (inl o)))

-- one is chosen
one-sign : (n display count : ℕ) → lent_ok sign (lending_zeros 0 display) ≡ true → leb count max_count ≡ true
    → (sign_chosen (command sign (signing byte byte)) (lending_zeros 0 display) (records (command sign (signing byte byte)) (0 ∷ []) count)).answer
    ≡ alone sign (le 2 n)
    → Answered sign (alone sign (le 2 n))
unfolding fits
one-sign n display count l c e =
    let z = zero-bytes in
    let s = command sign (signing byte byte) in
    recorded sign (signing byte byte) display count n (0 ∷ []) (z 1, (z 1, (z 1, (z 32, tt)))) l c (omega arith) refl refl
    (sign_chooses byte byte refl (omega arith) refl (lending_zeros 0 display) (records s (0 ∷ []) count) refl ∙ rw (own-all s count (0 ∷ [])) e)

-- ---- each status that a command gives alone

each-status : (k : Kind) → Each (λ n. Answered k (alone k (le 2 n))) (statuses k)
unfolding computing
each-status get_info = computed get_info (tries get_info) (tries_give get_info).0 (tries_give get_info).1
each-status register =
    let (s1, (s2, (s3, (s5, (s7, (s8, (s_e, (s10, u)))))))) = computed register (tries register) (tries_give register).0 (tries_give register).1 in
    (s1, (s2, (s3, (s5, (s7, (s8, (s_e, (full-register, (s10, tt)))))))))
each-status sign =
    let (s2, (s3, (s8, (s10, u)))) = computed sign (tries sign) (tries_give sign).0 (tries_give sign).1 in (
      one-sign 0x01 0 max_count refl refl refl,
      (s2, (s3, (one-sign 0x04 2 0 refl refl refl, (one-sign 0x05 1 0 refl refl refl, (s8, (one-sign 0x0E 3 0 refl refl refl, (s10, tt))))))),
    )
each-status deregister = computed deregister (tries deregister) (tries_give deregister).0 (tries_give deregister).1
each-status open_settings = computed open_settings (tries open_settings) (tries_give open_settings).0 (tries_give open_settings).1

found : (k : Kind) (v : List ℕ) (ns : List ℕ) → Each (λ n. Answered k (alone k (le 2 n))) ns → among v (map (le 2) ns) ≡ true
    → Answered k (alone k v)
found k v [] a m = clash m refl
found k v (n ∷ ns) a m =
    either (eq_bytes (le 2 n) v) _ m (λ p. rw (eq_bytes-eq (le 2 n) v p) at a.0) (λ p. found k v ns a.1 p)

pub status_witness : (k : Kind) (v : List ℕ) → among v (map (le 2) (statuses k)) ≡ true
    → Answered k (response (write (status_only k) (v ∷ [])))
status_witness k v m = found k v (statuses k) (each-status k) m
