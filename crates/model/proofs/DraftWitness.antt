-- Each draft that completion takes is one that a command writes.
-- Assumes nothing.
use mathlib.Core.Path.{◌≡◌, refl, sym, ap, ◌∙◌}
use mathlib.Core.Bool.{Bool, true, false, not, cond, and-false}
use mathlib.Core.List.{List, [], ◌∷◌, ◌++◌}
use mathlib.Core.Logic.{◌⊎◌, inl, inr}
use mathlib.Core.Option.{none, some}
use Prim.Native.Nat.{ℕ, suc, ◌+◌, ◌-◌, ◌^◌, ◌≤◌, ◌<◌}
use native.Mathlib.Omega.{arith}
use lib.ListN.{length, get_or}
use lib.Dec.{lit<}
use borrow.Author.Tests.{le-leb, ltb-true, eqb-true, ne_eqb}
use Rattle.model.specs.Lists.{empty, eq_bytes}
use Rattle.model.specs.Utf8.{follow, utf8_after}
use Rattle.model.specs.Tlv.{Bytes, num, le, Kind, register, sign, Field, challenge_hash, attestation_type, transaction_content, key_handle, aaid, assertion_info, key_id, mixed_token, no_counts, public_key, nonce, content_hash, new_count, full, fits, kind_of, fields_of, values_of, children_ok, fields_in, field_in, max_command}
use Rattle.model.specs.Layouts.{Layout, end, fill, write, reads}
use Rattle.model.specs.Records.{Record, Table, has_mixed, record_ok, own, table_ok, max_count}
use Rattle.model.specs.Commands.{Lent, Call, Effect, gave, kind, mixed_in, value, table_of, outcome, draft, key_registration_data, signed_data, lent_ok, judge, register_draft, register_checks, decide_register, chosen, has_content, transaction_hash, sign_fields, sign_draft_of, sign_draft, sign_one, sign_chosen, decide_sign, decide, perform}
use Rattle.model.specs.Complete.{drafts_of, is_draft}
use Rattle.model.specs.Writer.{command}
use Rattle.model.proofs.Basics.{split, impossible, both, eq_bytes-eq, eq_bytes-refl, length-select}
use Rattle.model.proofs.Numbers.{length-le, bytes_le, num-le, le-num, num_bound}
use Rattle.model.proofs.Tlvs.{Sized}
use Rattle.model.proofs.LayoutLaws.{AllBytes, fit_all, fits-most, fits-least, size_fits, reads-written, fits-allowed}
use Rattle.model.proofs.CommandWrites.{completion_kind, SaidDraft, new_key, one-chosen, signed-listed, drafts_small, command_drafts, drafts_each, draft_taken}
use Rattle.model.proofs.LayoutWritten.{any_found, each_member, written-reads}
use Rattle.model.proofs.LentLaws.{profile-ok}
use Rattle.model.proofs.HashLaws.{mixed-bytes, mixed-fits}
use Rattle.model.proofs.Rules.{tested}
use Rattle.model.proofs.Kept.{Accepted, accepted}
use Rattle.model.proofs.EdgesSign.{picked}
use Rattle.model.proofs.Witness.{Answered, zeros, byte, zero-bytes, calling, lending, registering, signing, kind-command, calling_gives, total, not-broken, fields-command, taken, Fit, fit_each, all_fit}

-- A4: "Nobody can look back through a hash, so for completion and the reader any 32 bytes count as a transaction hash that a command can write": this is
-- the draft of that call, a Sign with content of one chosen record, but for its transaction hash
pub record ButHash (c : Call) (t : Table) (d : List ℕ) : Type 0 where
  pub signs : kind_of c.command ≡ some sign
  pub content : has_content c.command ≡ true
  pub record_of : Record
  pub one : picked c t ≡ record_of ∷ []
  pub hash : List ℕ
  pub size : length hash ≡ 32
  pub same : sign_draft_of hash c.command c.lent record_of ≡ d

-- some allowed inputs make the command of this kind write this draft, or the same but for its transaction hash
pub record Drafted (kind : ℕ) (d : List ℕ) : Type 0 where
  pub command : Kind
  pub of_kind : completion_kind command ≡ kind
  pub written : List ℕ
  pub made : Answered command (draft written)
  pub alike : (written ≡ d) ⊎ ButHash made.call made.table d

-- ---- the numbers in ASSERTION_INFO

-- the numbers of which these bytes are written: a version, a mode, one algorithm, and for w = 2 another
record Info (mode w : ℕ) (i : List ℕ) : Type 0 where
  version : ℕ
  algorithm : ℕ
  other : ℕ
  small-version : version < 65536
  small_algorithm : algorithm < 65536
  small_other : other < 256 ^ w
  written : le 2 version ++ (mode ∷ le 2 algorithm ++ le w other) ≡ i

info_of : (mode w : ℕ) (i : List ℕ) → fits (assertion_info (5 + w) mode) i ≡ true → Bytes i → Info mode w i
info_of mode w i f b =
    let g : Field = assertion_info (5 + w) mode in
    let m : get_or i 2 0 ≡ mode = eqb-true _ _ (fits-allowed g i f) in
    let n : length i ≡ 5 + w = omega (arith, fits-least g i f, fits-most g i f) in
    taken 5 (λ i. length i ≡ 5 + w → get_or i 2 0 ≡ mode → Bytes i → Info mode w i)
    (λ x0 x1 x2 x3 x4 rest n e b.
    let v : Bytes (x0 ∷ x1 ∷ []) = (b.0, (b.1.0, tt)) in
    let a : Bytes (x3 ∷ x4 ∷ []) = (b.1.1.1.0, (b.1.1.1.1.0, tt)) in
    let o : Bytes rest = b.1.1.1.1.1 in
    let m : length rest ≡ w = omega arith in
    record {
      version = num (x0 ∷ x1 ∷ []);
      algorithm = num (x3 ∷ x4 ∷ []);
      other = num rest;
      small-version = num_bound (x0 ∷ x1 ∷ []) v;
      small_algorithm = num_bound (x3 ∷ x4 ∷ []) a;
      small_other = rw m at (num_bound rest o);
      written = rw (le-num (x0 ∷ x1 ∷ []) v, le-num (x3 ∷ x4 ∷ []) a, ← m, le-num rest o, ← e);
    })
    i (omega arith) n m b

-- ---- Register

registering_ok : (h : List ℕ) → fits challenge_hash h ≡ true → children_ok (fields_of register) (registering h full) ≡ true
unfolding children_ok fits follow utf8_after eq_bytes le
registering_ok h f = rw f

register-answers : (h : List ℕ) (l : Lent) → fits challenge_hash h ≡ true → l.verdict ≡ 0
    → (perform register (calling register (registering h full) l) []).answer
    ≡ draft (write (key_registration_data end)
    (l.aaid ∷ (le 2 l.version ++ (0x01 ∷ le 2 l.signature_algorithm ++ le 2 l.key_algorithm)) ∷ h ∷ l.key_id
    ∷ (le 4 0 ++ le 4 0) ∷ l.public_key ∷ []))
unfolding perform decide decide_register register_checks register_draft judge field_in own
register-answers h l f v =
    let n : length h ≤ 32 = fits-most challenge_hash h f in
    let z : Sized (registering h full) = omega (arith, length-le 2 full) in
    let m : 4 + total (registering h full) ≤ max_command = omega (arith, length-le 2 full) in
    let read = fields-command register (registering h full) z m in
    let sound = not-broken register (registering h full) z m (registering_ok h f) in
    rw (sound, v, read attestation_type, read challenge_hash, num-le 2 full (lit< tt))

register-lent : (a : List ℕ) (v s o : ℕ) (k p : List ℕ) → fits aaid a ≡ true → v < 65536 → s < 65536 → o < 65536 → fits key_id k ≡ true
    → fits public_key p ≡ true → lent_ok register (lending a v s o (zeros 15) 0 0 k p (zeros 8)) ≡ true
unfolding lent_ok fits
register-lent a v s o k p fa fv fs fo fk fp = both (both (both (profile-ok _ fa refl fv fs fo) refl) fk) fp

register_made : (a i h k c p : List ℕ) (rest : List (List ℕ)) → Fit (key_registration_data end) (a ∷ i ∷ h ∷ k ∷ c ∷ p ∷ rest)
    → AllBytes (a ∷ i ∷ h ∷ k ∷ c ∷ p ∷ rest)
    → Answered register (draft (write (key_registration_data end) (a ∷ i ∷ h ∷ k ∷ c ∷ p ∷ rest)))
unfolding write fill table_ok
register_made a i h k c p rest w b =
    let (fa, (fi, (fh, (fk, (fc, (fp, u)))))) = w.0 in
    let (ba, (bi, (bh, (bk, (bc, (bp, br)))))) = b in
    let z = zero-bytes in
    let j = info_of 0x01 2 i fi bi in
    let e : le 4 0 ++ le 4 0 ≡ c = eq_bytes-eq _ c (fits-allowed no_counts c fc) in
    let l = lending a j.version j.algorithm j.other (zeros 15) 0 0 k p (zeros 8) in
    calling_gives register (registering h full) l [] (draft (write (key_registration_data end) (a ∷ i ∷ h ∷ k ∷ c ∷ p ∷ rest)))
    (z 1, (bh, (z 1, (bytes_le 2 full, (z 32, tt))))) (ba, (z 15, (bk, (bp, (z 8, tt)))))
    (register-lent a j.version j.algorithm j.other k p fa j.small-version j.small_algorithm j.small_other fk fp) refl
    (register-answers h l fh refl ∙ rw (j.written, e))

pub register_drafted : (vs : List (List ℕ)) → Fit (key_registration_data end) vs → AllBytes vs → 6 ≤ length vs
    → Drafted 0 (write (key_registration_data end) vs)
register_drafted vs f b n =
    record {
      command = register;
      of_kind = refl;
      written = write (key_registration_data end) vs;
      alike = inl refl;
      made =
          taken 6 (λ vs. Fit (key_registration_data end) vs → AllBytes vs → Answered register (draft (write (key_registration_data end) vs)))
          register_made
          vs n f b;
    }

-- ---- Sign

signing_ok : (x h : List ℕ) → fits transaction_content x ≡ true → fits challenge_hash h ≡ true
    → children_ok (fields_of sign) (signing x h) ≡ true
unfolding children_ok fits eq_bytes
signing_ok x h f g = rw (f, g)

-- with no key handles all records are chosen
chosen-all : (t : Table) → chosen [] t ≡ t
unfolding chosen
chosen-all [] = refl
chosen-all (r ∷ t) = ap (λ (u : Table). r ∷ u) (chosen-all t)

module _ (x h : List ℕ) (fx : fits transaction_content x ≡ true) (sx : length x ≤ 1) (fh : fits challenge_hash h ≡ true) where
  sign_fits : Sized (signing x h) × (4 + total (signing x h) ≤ max_command)
  sign_fits = let n : length h ≤ 32 = fits-most challenge_hash h fh in (omega arith, omega arith)

  sign_reads : (f : Field) → fields_in f (command sign (signing x h)) ≡ values_of f (signing x h)
  sign_reads = fields-command sign (signing x h) sign_fits.0 sign_fits.1

  -- the caller's own records decide
  pub sign_chooses : (l : Lent) (t : Table) → l.verdict ≡ 0
      → (perform sign (calling sign (signing x h) l) t).answer
      ≡ (sign_chosen (command sign (signing x h)) l (own (mixed_in (command sign (signing x h))) t)).answer
  unfolding perform decide decide_sign judge
  sign_chooses l t v =
      rw (not-broken sign (signing x h) sign_fits.0 sign_fits.1 (signing_ok x h fx fh), v, sign_reads key_handle, chosen-all)

  sign-answers : (l : Lent) (r : Record) → l.verdict ≡ 0 → l.display ≡ 0 → eq_bytes r.mixed (mixed_in (command sign (signing x h))) ≡ true
      → r.count < max_count
      → (perform sign (calling sign (signing x h) l) (r ∷ [])).answer ≡ draft (sign_draft (command sign (signing x h)) l r)
  unfolding own sign_chosen sign_one judge
  sign-answers l r v d o m =
      sign_chooses l (r ∷ []) v
      ∙ (let below = ne_eqb r.count max_count (omega arith) in
      rw (o, d, and-false (has_content (command sign (signing x h))), below))

  -- the one record is chosen
  sign-picked : (l : Lent) (r : Record) → eq_bytes r.mixed (mixed_in (command sign (signing x h))) ≡ true
      → picked (calling sign (signing x h) l) (r ∷ []) ≡ r ∷ []
  unfolding own
  sign-picked l r o = rw (sign_reads key_handle, o, chosen-all)

  module _ (content : Bool) (e : not (empty x) ≡ content) where
    sign-content : has_content (command sign (signing x h)) ≡ content
    unfolding has_content field_in
    sign-content = rw (sign_reads transaction_content) e

    -- the draft with any transaction hash, field by field
    sign-written : (l : Lent) (r : Record) (hash : List ℕ)
        → sign_draft_of hash (command sign (signing x h)) l r
        ≡ write (signed_data content end)
        (l.aaid ∷ (le 2 l.version ++ (cond content 0x02 0x01 ∷ le 2 l.signature_algorithm)) ∷ l.nonce ∷ h ∷ hash ∷ r.key_id
        ∷ le 4 (suc r.count) ∷ [])
    unfolding field_in
    sign-written l r hash = rw (sign-content, sign_reads challenge_hash)

-- the content that a mode wants
content_of : (content : Bool)
    → (x : List ℕ) × (fits transaction_content x ≡ true) × (length x ≤ 1) × (not (empty x) ≡ content) × Bytes x
unfolding fits
content_of true = (byte, refl, omega arith, refl, zero-bytes 1)
content_of false = ([], refl, omega arith, refl, tt)

-- the count before this one
count_of : (v : List ℕ) → fits new_count v ≡ true → Bytes v → (n : ℕ) × (n < max_count) × (le 4 (suc n) ≡ v)
count_of v f b =
    let p : 0 < num v = ltb-true _ _ (fits-allowed new_count v f) in
    let l : length v ≡ 4 = omega (arith, fits-least new_count v f, fits-most new_count v f) in
    let m : num v < 256 ^ 4 = rw l at (num_bound v b) in
    let s : suc (num v - 1) ≡ num v = omega arith in
    (num v - 1, omega arith, rw s (rw l at (le-num v b)))

sign-lent : (a : List ℕ) (v s : ℕ) (n : List ℕ) → fits aaid a ≡ true → v < 65536 → s < 65536 → fits nonce n ≡ true
    → lent_ok sign (lending a v s 0 (zeros 15) 0 0 (zeros 32) byte n) ≡ true
unfolding lent_ok fits
sign-lent a v s n fa fv fs fn = both (both (both (profile-ok _ fa refl fv fs (lit< tt)) refl) refl) fn

one_ok : (r : Record) → record_ok r ≡ true → table_ok (r ∷ []) ≡ true
unfolding own
one_ok r e =
    tested (r ∷ [])
    record { few = omega arith; each = both e refl; own-few = λ m. omega (arith, length-select (has_mixed m) (r ∷ [])); once = refl }

signer_ok : (k m : List ℕ) (n : ℕ) → fits key_id k ≡ true → fits mixed_token m ≡ true → n < max_count
    → record_ok (record { key_id = k; mixed = m; name = byte; count = n }) ≡ true
unfolding record_ok fits follow utf8_after
signer_ok k m n f g l = both (both (both f g) refl) (le-leb n max_count (omega arith))

short-info : {mode : ℕ} {i : List ℕ} (j : Info mode 0 i) → le 2 j.version ++ (mode ∷ le 2 j.algorithm) ≡ i
unfolding le
short-info j = j.written

-- the draft of a Sign with these values, and its hash or another
sign_like : (content : Bool) (c : Call) (t : Table) (r : Record) (hash d : List ℕ) → kind_of c.command ≡ some sign
    → has_content c.command ≡ content → picked c t ≡ r ∷ [] → fits (content_hash content) hash ≡ true
    → sign_draft_of hash c.command c.lent r ≡ d → (sign_draft c.command c.lent r ≡ d) ⊎ ButHash c t d
unfolding sign_draft transaction_hash
sign_like true c t r hash d k e p f q =
    inr
    (record {
      signs = k;
      content = e;
      record_of = r;
      one = p;
      hash = hash;
      size = omega (arith, fits-least (content_hash true) hash f, fits-most (content_hash true) hash f);
      same = q;
    })
sign_like false c t r [] d k e p f q = inl (rw e (rw e at q))
sign_like false c t r (x ∷ hash) d k e p f q = absurd (omega (arith, fits-most (content_hash false) (x ∷ hash) f))

sign_made : (content : Bool) (a i n h c k v : List ℕ) (rest : List (List ℕ))
    → Fit (signed_data content end) (a ∷ i ∷ n ∷ h ∷ c ∷ k ∷ v ∷ rest) → AllBytes (a ∷ i ∷ n ∷ h ∷ c ∷ k ∷ v ∷ rest)
    → Drafted 1 (write (signed_data content end) (a ∷ i ∷ n ∷ h ∷ c ∷ k ∷ v ∷ rest))
unfolding write fill calling_gives
sign_made content a i n h c k v rest w b =
    let (fa, (fi, (fn, (fh, (fc, (fk, (fv, u))))))) = w.0 in
    let (ba, (bi, (bn, (bh, (bc, (bk, (bv, br))))))) = b in
    let o = zero-bytes in
    let j = info_of (cond content 0x02 0x01) 0 i fi bi in
    let (x, fx, sx, ex, bx) = content_of content in
    let (z, mz, ez) = count_of v fv bv in
    let q = command sign (signing x h) in
    let l = lending a j.version j.algorithm 0 (zeros 15) 0 0 (zeros 32) byte n in
    let r : Record = record { key_id = k; mixed = mixed_in q; name = byte; count = z } in
    let m = eq_bytes-refl (mixed_in q) in
    let d : sign_draft_of c q l r ≡ write (signed_data content end) (a ∷ i ∷ n ∷ h ∷ c ∷ k ∷ v ∷ rest) =
    sign-written x h fx sx fh content ex l r c ∙ rw (short-info j, ez) in
    record {
      command = sign;
      of_kind = refl;
      written = sign_draft q l r;
      made =
          calling_gives sign (signing x h) l (r ∷ []) (draft (sign_draft q l r)) (o 1, (bh, (bx, (o 32, tt))))
          (ba, (o 15, (o 32, (o 1, (bn, (bk, (mixed-bytes q, (o 1, tt))))))))
          (sign-lent a j.version j.algorithm n fa j.small-version j.small_algorithm fn)
          (one_ok r (signer_ok k (mixed_in q) z fk (mixed-fits q) mz))
          (sign-answers x h fx sx fh l r refl refl m mz);
      alike =
          sign_like content (calling sign (signing x h) l) (r ∷ []) r c _ (kind-command sign (signing x h)) (sign-content x h fx sx fh content ex)
          (sign-picked x h fx sx fh l r m) fc d;
    }

pub sign_drafted : (content : Bool) (vs : List (List ℕ)) → Fit (signed_data content end) vs → AllBytes vs → 7 ≤ length vs
    → Drafted 1 (write (signed_data content end) vs)
sign_drafted content vs f b n =
    taken 7 (λ vs. Fit (signed_data content end) vs → AllBytes vs → Drafted 1 (write (signed_data content end) vs)) (sign_made content) vs n f b

-- ---- both

register_witness : (d : List ℕ) → Bytes d → reads (key_registration_data end) d ≡ true → Drafted 0 d
register_witness d b e =
    let w = reads-written (key_registration_data end) d b e in
    let f = fit_each (key_registration_data end) w.values w.fit in
    rw w.written at (register_drafted w.values f w.held (omega (arith, w.number)))

sign_witness : (content : Bool) (d : List ℕ) → Bytes d → reads (signed_data content end) d ≡ true → Drafted 1 d
sign_witness content d b e =
    let w = reads-written (signed_data content end) d b e in
    let f = fit_each (signed_data content end) w.values w.fit in
    rw w.written at (sign_drafted content w.values f w.held (omega (arith, w.number)))

pub draft_witness : (kind : ℕ) (d : List ℕ) → Bytes d → is_draft kind d ≡ true → Drafted kind d
unfolding is_draft
draft_witness kind d b e =
    let (l, m, r) = any_found (λ l. reads l d) (drafts_of kind) e in
    each_member (λ l. reads l d ≡ true → Drafted kind d) m
    (drafts_each _ kind (λ k p. rw k (register_witness d b p)) (λ content k p. rw k (sign_witness content d b p)))
    r

-- and the first direction again: completion takes it, also with another transaction hash
hash_exchanged : (q : List ℕ) (l : Lent) (r : Record) (old new : List ℕ) → length new ≡ 32
    → fit_all (signed_data true end) (sign_fields true old q l r) ≡ true → fit_all (signed_data true end) (sign_fields true new q l r) ≡ true
hash_exchanged q l r old new n e =
    let (fa, (fi, (fn, (fh, (fc, rest))))) = (fit_each (signed_data true end) (sign_fields true old q l r) e).0 in
    let f : fits (content_hash true) new ≡ true = size_fits (content_hash true) new (omega arith) (omega arith) refl in
    all_fit (signed_data true end) (sign_fields true new q l r) ((fa, (fi, (fn, (fh, (f, rest))))), tt)

-- what is known of the draft of a Sign with content of one chosen record
signed-fits : (q : List ℕ) (l : Lent) (rs : Table) (r : Record) → rs ≡ r ∷ [] → has_content q ≡ true → {k : Kind} {f : Layout} {vs : List (List ℕ)}
    → k ≡ sign → SaidDraft q l rs k f vs → fit_all f vs ≡ true → fit_all (signed_data true end) (sign_fields true (transaction_hash q) q l r) ≡ true
signed-fits q l rs r p c k new_key e = impossible cc
signed-fits q l rs r p c k (one-chosen o u) e = let i : o ≡ r = cc in rw (← i) (rw c at e)

-- the table by value is the one that the call runs on
table_is : (t u : Table) → table_of (value t) ≡ some u → u ≡ t
unfolding table_of
table_is t u e = split (table_ok t) (λ o. let f : some t ≡ some u = rw o at e in cc) (λ o. let f : none ≡ some u = rw o at e in impossible cc)

but_hash_taken : (c : Call) (t : Table) (e : Effect) (written d : List ℕ) → outcome c (value t) ≡ gave e → e.answer ≡ draft written
    → ButHash c t d → is_draft 1 d ≡ true
unfolding is_draft
but_hash_taken c t e written d o a x =
    let y : Accepted c (value t) e = accepted c (value t) e o in
    let w = command_drafts c (value t) e y written a in
    let k : kind c ≡ sign = rw x.signs in
    let p : picked c y.table ≡ x.record_of ∷ [] = rw (table_is t y.table y.read) x.one in
    let f = signed-fits c.command c.lent _ x.record_of p x.content k w.said w.written.fit in
    written-reads (drafts_small sign)
    (record {
      listed = signed-listed true;
      fit = hash_exchanged c.command c.lent x.record_of _ x.hash x.size f;
      number = refl;
      written = rw x.content at x.same;
    })

pub drafted_taken : (kind : ℕ) (d : List ℕ) → Drafted kind d → is_draft kind d ≡ true
drafted_taken kind d w = go w.alike
  where
    m : Answered w.command (draft w.written)
    m = w.made

    go : (w.written ≡ d) ⊎ ButHash m.call m.table d → is_draft kind d ≡ true
    go (inl e) =
        rw (← e, ← w.of_kind)
        (rw m.kind at (draft_taken m.call (value m.table) m.effect w.written m.gives m.answers))
    go (inr x) =
        let k : some sign ≡ some w.command = sym x.signs ∙ m.kind in
        let j : sign ≡ w.command = cc in
        let i : 1 ≡ kind = ap completion_kind j ∙ w.of_kind in
        rw (← i) (but_hash_taken m.call m.table m.effect w.written d m.gives m.answers x)
