-- Each response that the reader takes is one that a command or a completion writes.
-- Assumes nothing.
use mathlib.Core.Path.{◌≡◌, refl, sym, ap, ◌∙◌}
use mathlib.Core.Bool.{Bool, true, false, cond, or-false}
use mathlib.Core.List.{List, [], ◌∷◌, ◌++◌, map, append-nil}
use Prim.Native.Nat.{ℕ, zero, suc, ◌+◌, ◌*◌, ◌≤◌}
use native.Mathlib.Omega.{arith}
use lib.ListN.{length, drop, get_or, length-drop}
use lib.Dec.{T, eqb, leb, ltb, lit<, lit≤}
use Rattle.model.specs.Lists.{any, all, select, eq_bytes, distinct}
use Rattle.model.specs.Tlv.{Bytes, num, le, tlv, bytes, Kind, get_info, register, sign, deregister, open_settings, Field, status_among, ok, api_version, index, aaid, metadata, content_type, assertion_scheme, full_type, surrogate_type, signature, certificate, full, surrogate, text_plain, uaf_v1_tlv, rule_of, tag_of, fits, tlvs_past, children_ok, children, broken, response_tag, assertion_tag, reg_assertion_tag, auth_assertion_tag}
use Rattle.model.specs.Layouts.{Layout, end, field, group, fields, size, fill, write, reads}
use Rattle.model.specs.Records.{Table, has_mixed, key_ids, record_ok, own, table_ok}
use Rattle.model.specs.Commands.{statuses, Decision, Lent, mixed_in, response, gave, status_only, info, name_pairs, name_list, name_fields, name_response, key_registration_data, signed_data, judge, profile_ok, lent_ok, info_response, decide_get_info, decide, perform, least_output}
use Rattle.model.specs.Writer.{command}
use Rattle.model.specs.Complete.{Completion, completion_ok, signature_of, attestation, completed, complete}
use Rattle.model.specs.Reader.{list_lengths, asserted, registered, signed, responses, listed_keys, is_response, is_handle}
use Rattle.model.proofs.Basics.{and_left, and_right, both, eq_bytes-eq, eq_bytes-refl, select-all, length-select, Each}
use Rattle.model.proofs.Tlvs.{bytes-append}
use Rattle.model.proofs.LayoutLaws.{AllBytes, tags_ok, most, reads-written, first-bytes, rest-bytes, write_bytes, fits-allowed}
use Rattle.model.proofs.PartLaws.{nodes, leaves, honest}
use Rattle.model.proofs.LayoutWritten.{any_found, each_member, keys-listed}
use Rattle.model.proofs.Rules.{tested}
use Rattle.model.proofs.EdgesSign.{several_listed}
use Rattle.model.proofs.LentLaws.{profile-ok}
use Rattle.model.proofs.HashLaws.{mixed-bytes, mixed-fits}
use Rattle.model.proofs.Witness.{Answered, record_parts, zeros, byte, zero-bytes, calling, lending, lending_zeros, signing, calling_gives, taken, Fit, all_fit, fit_each}
use Rattle.model.proofs.StatusWitness.{status_witness}
use Rattle.model.proofs.DraftWitness.{Drafted, drafted_taken, register_drafted, sign_drafted, sign_chooses}

-- a completion writes it, of a draft that a command writes
pub record Finished (s : List ℕ) : Type 0 where
  pub completion : Completion
  pub inputs : AllBytes (completion.draft ∷ completion.signature ∷ completion.certificate ∷ [])
  pub drafted : Drafted completion.kind completion.draft
  pub completes : complete completion ≡ gave s

-- where a response comes from
pub data Origin (s : List ℕ) : Type 0 where
  by_command : (k : Kind) → Answered k (response s) → Origin s
  by_completion : Finished s → Origin s

-- what is written by a layout with values that fit is written by a command or a completion
Writes : Layout → Type 0
Writes l = (vs : List (List ℕ)) → Fit l vs → AllBytes vs → length vs ≡ size l → distinct (listed_keys (write l vs)) ≡ true
    → Origin (write l vs)

-- ---- statuses and GetInfo

status_writes : (k : Kind) → Writes (status_only k)
unfolding Writes write fill
status_writes k vs f b n d =
    by_command k (status_witness k (get_or vs 0 []) (fits-allowed (status_among (statuses k)) (get_or vs 0 []) f.0.0))

info-answers : (l : Lent) → (perform get_info (calling get_info [] l) []).answer ≡ response (info_response l)
unfolding perform decide decide_get_info judge broken children children_ok tlvs_past bytes le num
info-answers l = refl

info-lent : (a m : List ℕ) → fits aaid a ≡ true → fits metadata m ≡ true
    → lent_ok get_info (lending a 0 0 0 m 0 0 (zeros 32) byte (zeros 8)) ≡ true
unfolding lent_ok
info-lent a m fa fm = profile-ok _ fa fm (lit< tt) (lit< tt) (lit< tt)

-- a field with one value only
exact : (f : Field) (u v : List ℕ) → (rule_of f).allowed v ≡ eq_bytes u v → fits f v ≡ true → u ≡ v
exact f u v e h = eq_bytes-eq u v (sym e ∙ fits-allowed f v h)

info_made : (o v i a m c s x y : List ℕ) (rest : List (List ℕ)) → Fit info (o ∷ v ∷ i ∷ a ∷ m ∷ c ∷ s ∷ x ∷ y ∷ rest)
    → AllBytes (o ∷ v ∷ i ∷ a ∷ m ∷ c ∷ s ∷ x ∷ y ∷ rest)
    → Answered get_info (response (write info (o ∷ v ∷ i ∷ a ∷ m ∷ c ∷ s ∷ x ∷ y ∷ rest)))
unfolding write fill info_response table_ok
info_made o v i a m c s x y rest f b =
    let ((fo, (fv, ((fi, (fa, (fm, (fc, (fs, (fx, (fy, u))))))), w))), q) = f in
    let z = zero-bytes in
    let l = lending a 0 0 0 m 0 0 (zeros 32) byte (zeros 8) in
    calling_gives get_info [] l [] (response (write info (o ∷ v ∷ i ∷ a ∷ m ∷ c ∷ s ∷ x ∷ y ∷ rest))) tt
    (b.1.1.1.0, (b.1.1.1.1.0, (z 32, (z 1, (z 8, tt))))) (info-lent a m fa fm) refl
    (info-answers l
    ∙ rw (
      exact ok (le 2 0) o (or-false (eq_bytes (le 2 0) o)) fo,
      exact api_version (1 ∷ []) v refl fv,
      exact index (0 ∷ []) i refl fi,
      exact content_type text_plain c refl fc,
      exact assertion_scheme uaf_v1_tlv s refl fs,
      exact full_type (le 2 full) x refl fx,
      exact surrogate_type (le 2 surrogate) y refl fy,
    ))

info_writes : Writes info
unfolding Writes
info_writes vs f b n d =
    by_command get_info
    (taken 9 (λ vs. Fit info vs → AllBytes vs → Answered get_info (response (write info vs))) info_made vs (omega arith) f b)

-- ---- completions

group-first : (g : ℕ) (inner rest : Layout) (vs : List (List ℕ))
    → write (group g inner rest) vs ≡ write (group g inner end) vs ++ write rest (drop (size inner) vs)
unfolding write fill
group-first g inner rest vs = bytes-append (tlv g (bytes (fill inner vs)) ∷ []) (fill rest (drop (size inner) vs))

asserted-write : (o a : ℕ) (inner : Layout) (vs : List (List ℕ))
    → write (asserted o a inner) vs
    ≡ bytes
    (tlv o (bytes (tlv (tag_of ok) (get_or vs 0 []) ∷ tlv assertion_tag (bytes (tlv a (write inner (drop 1 vs)) ∷ [])) ∷ [])) ∷ [])
unfolding write fill
asserted-write o a inner vs = refl

-- what follows the draft
abbrev seal : Bool → Completion → List ℕ
seal p c = cond p (bytes (signature_of c ∷ [])) (bytes (tlv c.type (attestation c) ∷ []))

module _ (c : Completion) (p : Bool) (kind : eqb c.kind 1 ≡ p) (room : ltb c.output least_output ≡ false)
    (fine : completion_ok c ≡ true) (drafted : Drafted c.kind c.draft)
    (inputs : AllBytes (c.draft ∷ c.signature ∷ c.certificate ∷ [])) where
  finished : (g : ℕ) (inner rest : Layout) (vs : List (List ℕ)) → fits ok (get_or vs 0 []) ≡ true
      → c.draft ≡ write (group g inner end) (drop 1 vs) → seal p c ≡ write rest (drop (size inner) (drop 1 vs))
      → Finished (write (asserted (response_tag (cond p sign register)) (cond p auth_assertion_tag reg_assertion_tag) (group g inner rest)) vs)
  unfolding complete judge completed
  finished g inner rest vs f e r =
      let o = exact ok (le 2 0) (get_or vs 0 []) (or-false (eq_bytes (le 2 0) (get_or vs 0 []))) f in
      record {
        completion = c;
        inputs = inputs;
        drafted = drafted;
        completes = rw (room, drafted_taken c.kind c.draft drafted, fine, kind, e, r, ← group-first g inner rest (drop 1 vs), o, asserted-write);
      }

-- the completion of a registration with these values
abbrev registration : ℕ → List ℕ → List (List ℕ) → Completion
registration type cert vs =
    record {
      kind = 0;
      draft = write (key_registration_data end) (drop 1 vs);
      type = type;
      signature = get_or (drop 6 (drop 1 vs)) 0 [];
      certificate = cert;
      output = least_output;
    }

registered_writes : (type : ℕ) (parts : List Field) (cert : List ℕ) (vs : List (List ℕ)) → Fit (registered type parts) vs → AllBytes vs
    → 7 ≤ length vs → Bytes cert → completion_ok (registration type cert vs) ≡ true
    → seal false (registration type cert vs) ≡ write (group type (fields parts) end) (drop 6 (drop 1 vs))
    → Origin (write (registered type parts) vs)
unfolding le
registered_writes type parts cert vs f b n q o e =
    let w : Fit (key_registration_data end) (drop 1 vs) = (f.0.1.0.0.0, tt) in
    let bw = rest-bytes 1 vs b in
    by_completion
    (finished (registration type cert vs) false refl refl o
    (register_drafted (drop 1 vs) w bw (rw length-drop (omega arith)))
    (write_bytes (key_registration_data end) (drop 1 vs) bw, (first-bytes (drop 6 (drop 1 vs)) (rest-bytes 6 (drop 1 vs) bw), (q, tt)))
    _ _ _ vs f.0.0 refl e)

full_writes : Writes (registered full (signature ∷ certificate ∷ []))
unfolding Writes completion_ok write fill
full_writes vs f b n d =
    let (fs, (fc, u)) = f.0.1.0.0.1.0 in
    registered_writes full (signature ∷ certificate ∷ []) (get_or (drop 1 (drop 6 (drop 1 vs))) 0 []) vs f b (omega arith)
    (first-bytes (drop 1 (drop 6 (drop 1 vs))) (rest-bytes 1 (drop 6 (drop 1 vs)) (rest-bytes 6 (drop 1 vs) (rest-bytes 1 vs b))))
    (both fs (rw fc)) refl

surrogate_writes : Writes (registered surrogate (signature ∷ []))
unfolding Writes completion_ok write fill
surrogate_writes vs f b n d =
    registered_writes surrogate (signature ∷ []) [] vs f b (omega arith) tt (both f.0.1.0.0.1.0.0 refl) refl

-- the completion of a signature with these values
abbrev signature-of : Bool → List (List ℕ) → Completion
signature-of content vs =
    record {
      kind = 1;
      draft = write (signed_data content end) (drop 1 vs);
      type = 0;
      signature = get_or (drop 7 (drop 1 vs)) 0 [];
      certificate = [];
      output = least_output;
    }

signed_seal : (content : Bool) (vs : List (List ℕ))
    → seal true (signature-of content vs) ≡ write (field signature end) (drop 7 (drop 1 vs))
unfolding write fill
signed_seal content vs = refl

signed_writes : (content : Bool) → Writes (signed content)
unfolding Writes completion_ok
signed_writes content vs f b n d =
    let w : Fit (signed_data content end) (drop 1 vs) = (f.0.1.0.0.0, tt) in
    let bw = rest-bytes 1 vs b in
    by_completion
    (finished (signature-of content vs) true refl refl (both f.0.1.0.0.1.0 refl)
    (sign_drafted content (drop 1 vs) w bw (rw length-drop (omega arith)))
    (write_bytes (signed_data content end) (drop 1 vs) bw, (first-bytes (drop 7 (drop 1 vs)) (rest-bytes 7 (drop 1 vs) bw), (tt, tt)))
    _ _ _ vs f.0.0 refl (signed_seal content vs))

-- ---- name lists

-- the Sign that is answered so, and its mixed token
abbrev naming : List ℕ
naming = command sign (signing [] byte)

abbrev caller : List ℕ
caller = mixed_in naming

-- the caller's records of which these values are the names and KeyIDs
abbrev named : ℕ → List (List ℕ) → Table
named zero vs = []
named (suc n) vs = record { key_id = get_or (drop 1 vs) 0 []; mixed = caller; name = get_or vs 0 []; count = 0 } ∷ named n (drop 2 vs)

length-named : (n : ℕ) (vs : List (List ℕ)) → length (named n vs) ≡ n
length-named zero vs = refl
length-named (suc n) vs = ap suc (length-named n (drop 2 vs))

fill-named : (n : ℕ) (vs : List (List ℕ)) → fill (name_pairs n) (name_fields (named n vs)) ≡ fill (name_pairs n) vs
unfolding fill
fill-named zero vs = refl
fill-named (suc n) vs = rw (fill-named n (drop 2 vs))

named-records : (n : ℕ) (vs : List (List ℕ)) → Fit (name_pairs n) vs → all record_ok (named n vs) ≡ true
unfolding record_ok fits
named-records zero vs f = refl
named-records (suc n) vs f =
    both (both (both (both f.0.1.0 (mixed-fits naming)) f.0.0) refl) (named-records n (drop 2 vs) f.1)

named-bytes : (n : ℕ) (vs : List (List ℕ)) → AllBytes vs → AllBytes (record_parts (named n vs))
named-bytes zero vs b = tt
named-bytes (suc n) vs b =
    (first-bytes (drop 1 vs) (rest-bytes 1 vs b), (mixed-bytes naming, (first-bytes vs b, named-bytes n (drop 2 vs) (rest-bytes 2 vs b))))

named-mixed : (n : ℕ) (vs : List (List ℕ)) → all (λ r. eq_bytes r.mixed caller) (named n vs) ≡ true
named-mixed zero vs = refl
named-mixed (suc n) vs = both (eq_bytes-refl caller) (named-mixed n (drop 2 vs))

named_ok : (n : ℕ) (vs : List (List ℕ)) → n ≤ 8 → Fit (name_pairs n) vs → distinct (key_ids (named n vs)) ≡ true
    → table_ok (named n vs) ≡ true
unfolding own
named_ok n vs k f d =
    tested (named n vs)
    record {
      few = omega (arith, length-named n vs);
      each = named-records n vs f;
      own-few = λ m. omega (arith, length-select (has_mixed m) (named n vs), length-named n vs);
      once = d;
    }

names-answer : (t : Table) → 2 ≤ length t → all (λ r. eq_bytes r.mixed caller) t ≡ true
    → (perform sign (calling sign (signing [] byte) (lending_zeros 0 0)) t).answer ≡ response (name_response t)
unfolding own fits
names-answer t n e =
    sign_chooses [] byte refl (omega arith) refl (lending_zeros 0 0) t refl
    ∙ rw (select-all _ t e) (ap (λ (d : Decision). d.answer) (several_listed _ (lending_zeros 0 0) t n))

write-named : (n : ℕ) (vs : List (List ℕ)) → fits ok (get_or vs 0 []) ≡ true
    → write (name_list (length (named n (drop 1 vs)))) (le 2 0 ∷ name_fields (named n (drop 1 vs))) ≡ write (name_list n) vs
unfolding write fill
write-named n vs f = rw (length-named n (drop 1 vs), fill-named n (drop 1 vs), exact ok (le 2 0) (get_or vs 0 []) (or-false (eq_bytes (le 2 0) (get_or vs 0 []))) f)

-- what holds of the pairs of any number of names
pub pairs_plain : (n : ℕ) → (honest 4 (name_pairs n) ≡ true) × (tags_ok (name_pairs n) ≡ true) × (most (name_pairs n) ≡ 172 * n)
pairs_plain zero = (refl, refl, omega arith)
pairs_plain (suc n) = let (h, t, m) = pairs_plain n in (h, t, omega arith)

pairs_keys : (n at : ℕ) (vs : List (List ℕ))
    → map (λ v. v.value) (select (λ v. is_handle v.tag) (leaves at (name_pairs n) vs)) ≡ key_ids (named n vs)
unfolding nodes
pairs_keys zero at vs = refl
pairs_keys (suc n) at vs = rw (pairs_keys n _ (drop 2 vs))

listed-named : (n : ℕ) (vs : List (List ℕ)) → Fit (name_list n) vs → n ≤ 8
    → listed_keys (write (name_list n) vs) ≡ key_ids (named n (drop 1 vs))
unfolding le nodes
listed-named n vs f k =
    let (h, t, m) = pairs_plain n in
    keys-listed (name_list n) vs (both h refl) (all_fit (name_list n) vs f) (both t refl) (omega arith)
    ∙ rw (append-nil (nodes (8 + length (get_or vs 0 [])) (name_pairs n) (drop 1 vs))) (pairs_keys n _ (drop 1 vs))

names-write : (n : ℕ) → 2 ≤ n → n ≤ 8 → Writes (name_list n)
unfolding Writes lent_ok profile_ok name_response fits
names-write n h k vs f b m d =
    let z = zero-bytes in
    let t = named n (drop 1 vs) in
    let e : write (name_list (length t)) (le 2 0 ∷ name_fields t) ≡ write (name_list n) vs = write-named n vs f.0.0 in
    by_command sign
    (calling_gives sign (signing [] byte) (lending_zeros 0 0) t (response (write (name_list n) vs)) (z 1, (z 1, (tt, (z 32, tt))))
    (z 9, (z 15, (z 32, (z 1, (z 8, named-bytes n (drop 1 vs) (rest-bytes 1 vs b)))))) refl
    (named_ok n (drop 1 vs) k f.0.1 (rw (listed-named n vs f k) at d))
    (names-answer t (omega (arith, length-named n (drop 1 vs))) (named-mixed n (drop 1 vs)) ∙ ap response e))

-- ---- all

all-write : Each Writes responses
all-write =
    let st = status_writes in
    let n : (n : ℕ) → T (leb 2 n) → T (leb n 8) → Writes (name_list n) = λ n p q. names-write n (lit≤ p) (lit≤ q) in
    let names : Each Writes (map name_list list_lengths) =
    (n 2 tt tt, (n 3 tt tt, (n 4 tt tt, (n 5 tt tt, (n 6 tt tt, (n 7 tt tt, (n 8 tt tt, tt))))))) in
    let later : Each Writes (signed true ∷ signed false ∷ map name_list list_lengths) =
    (signed_writes true, (signed_writes false, names)) in
    (st get_info, (st register, (st sign, (st deregister, (st open_settings, (info_writes, (full_writes, (surrogate_writes, later))))))))

pub response_witness : (s : List ℕ) → Bytes s → is_response s ≡ true → Origin s
unfolding is_response Writes
response_witness s b e =
    let (l, m, r) = any_found (λ l. reads l s) responses (and_left (any (λ l. reads l s) responses) _ e) in
    let d : distinct (listed_keys s) ≡ true = and_right (any (λ l. reads l s) responses) _ e in
    let f = reads-written l s b r in
    rw f.written
    at (each_member Writes m all-write f.values (fit_each l f.values f.fit) f.held f.number (rw f.written d))
