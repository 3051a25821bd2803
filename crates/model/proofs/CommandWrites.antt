-- What commands write, as layouts: it fits the output, and a draft is one that completion takes.
-- Assumes nothing.
use mathlib.Core.Path.{◌≡◌, refl, ap, subst}
use mathlib.Core.Bool.{Bool, true, false, not, cond, ◌||◌}
use mathlib.Core.List.Memᴰ
use mathlib.Core.List.{List, [], ◌∷◌, map, Memᴰ, append-nil}
use Prim.Native.Nat.{ℕ, zero, suc, ◌+◌, ◌≤◌, ◌<◌}
use native.Mathlib.Omega.{arith}
use lib.ListN.{length, get_or, take, drop}
use lib.Dec.{leb, eqb}
use borrow.Author.Tests.{leb-true, lt-ltb, eqb-true, eqb-false, eq-eqb}
use Rattle.model.specs.Lists.{all, any, select, empty, eq_bytes, among, distinct}
use Rattle.model.specs.Tlv.{le, fits, aaid, metadata, challenge_hash, key_id, public_key, username, nonce, key_handle, new_count, Kind, get_info, register, sign, deregister, open_settings, kinds, broken, fields_in, field_in, response_tag}
use Rattle.model.specs.Layouts.{Layout, end, size}
use Rattle.model.specs.Records.{Record, Table, record_ok, has_mixed, own, key_ids, max_count, max_own}
use Rattle.model.specs.Commands.{statuses, verdict_statuses, display_statuses, bytes_of, Lent, profile_ok, lent_ok, Call, mixed_of, Given, Check, judge, gave, Answer, response, draft, Change, keep, Decision, Effect, status_only, only, info, info_fields, info_response, decide_get_info, key_registration_data, register_fields, register_draft, register_checks, decide_register, chosen, name_pairs, name_list, name_fields, name_response, signed_data, has_content, transaction_hash, sign_fields, sign_draft, sign_one, sign_chosen, decide_sign, decide_deregister, decide_open_settings, decide, perform, kind, outcome, least_output}
use Rattle.model.specs.Complete.{drafts_of, is_draft}
use Rattle.model.specs.Reader.{responses, is_handle, is_signed}
use Rattle.model.proofs.Basics.{split, clash, and_left, and_right, both, eq_bytes-refl, length-select, Passed, Each, numbers_from}
use Rattle.model.proofs.Numbers.{num-le, length-le}
use Rattle.model.proofs.LayoutLaws.{fit_all}
use Rattle.model.proofs.HashLaws.{hash_fits}
use Rattle.model.proofs.Kept.{given-ok, select_keeps, Accepted, accepted}
use Rattle.model.proofs.Rules.{Tests, tests}
use Rattle.model.proofs.Fields.{field_fits}
use Rattle.model.proofs.PartLaws.{nodes, leaves, lacks}
use Rattle.model.proofs.LayoutWritten.{member, all_member, WrittenBy, small, written-length, written-reads, responses-small, outer_tag, keys_in, no_keys}
use Rattle.model.proofs.EdgesSign.{picked}

-- the kind of completion for a command's drafts; for the commands that write none it is no kind
abbrev pub completion_kind : Kind → ℕ
completion_kind get_info = 2
completion_kind register = 0
completion_kind sign = 1
completion_kind deregister = 2
completion_kind open_settings = 2

abbrev pub drafts : Kind → List Layout
drafts k = drafts_of (completion_kind k)

-- the status alone is among those that the command can give so
abbrev listed : Kind → ℕ → Bool
listed k n = any (eqb n) (statuses k)

-- what a command says, as layout and values; rs: the records that a Sign chooses. A response is one of three: a status alone, what GetInfo
-- says of the lent profile, and the names of the chosen records
pub data Said (l : Lent) (rs : Table) : Kind → Layout → List (List ℕ) → Type 0 where
  status-alone : (k : Kind) (n : ℕ) → any (eqb n) (statuses k) ≡ true → Said l rs k (status_only k) (le 2 n ∷ [])
  the_profile : Said l rs get_info info (info_fields l)
  the_names : 2 ≤ length rs → Said l rs sign (name_list (length rs)) (le 2 0 ∷ name_fields rs)

-- a draft is Register's, or Sign's of the one chosen record
pub data SaidDraft (q : List ℕ) (l : Lent) (rs : Table) : Kind → Layout → List (List ℕ) → Type 0 where
  new_key : SaidDraft q l rs register (key_registration_data end) (register_fields q l)
  one-chosen : (r : Record) → rs ≡ r ∷ []
      → SaidDraft q l rs sign (signed_data (has_content q) end) (sign_fields (has_content q) (transaction_hash q) q l r)

-- what is claimed of a response of a command, and of a draft
pub record Responded (l : Lent) (rs : Table) (k : Kind) (s : List ℕ) : Type 0 where
  pub layout : Layout
  pub values : List (List ℕ)
  pub said : Said l rs k layout values
  pub written : WrittenBy responses layout values s
  pub keys : distinct (keys_in layout values) ≡ true
  pub tag : outer_tag layout ≡ response_tag k
  pub unsigned : lacks is_signed layout ≡ true

pub record WroteDraft (q : List ℕ) (l : Lent) (rs : Table) (k : Kind) (d : List ℕ) : Type 0 where
  pub layout : Layout
  pub values : List (List ℕ)
  pub said : SaidDraft q l rs k layout values
  pub written : WrittenBy (drafts k) layout values d

abbrev Good : List ℕ → Lent → Table → Kind → Answer → Type 0
Good q l rs k (response s) = Responded l rs k s
Good q l rs k (draft d) = WroteDraft q l rs k d

-- ---- a response of one status

kind_member : (k : Kind) → Memᴰ k kinds
kind_member get_info = member 0 get_info kinds (omega arith)
kind_member register = member 1 get_info kinds (omega arith)
kind_member sign = member 2 get_info kinds (omega arith)
kind_member deregister = member 3 get_info kinds (omega arith)
kind_member open_settings = member 4 get_info kinds (omega arith)

pub each-kind : (p : Kind → Bool) → all p kinds ≡ true → (k : Kind) → p k ≡ true
each-kind p e k = all_member p (kind_member k) e

-- the bytes of a listed status are among those of the statuses
listed-bytes : (n : ℕ) (ns : List ℕ) → any (eqb n) ns ≡ true → among (le 2 n) (map (le 2) ns) ≡ true
listed-bytes n [] e = e
listed-bytes n (m ∷ ns) e =
    split (eqb n m) (λ f. rw (eqb-true n m f, eq_bytes-refl (le 2 m)))
    (λ f. let ih : among (le 2 n) (map (le 2) ns) ≡ true = listed-bytes n ns (rw f at e) in split (eq_bytes (le 2 m) (le 2 n)) (λ h. rw h) (λ h. rw h ih))

-- each check that fails says something of which P holds
abbrev Saying : (ℕ → Type 0) → List Check → Type 0
Saying P [] = Unit {0}
Saying P (c ∷ cs) = (c.fails ≡ true → P c.says) × Saying P cs

module _ (q : List ℕ) (l : Lent) (rs : Table) where
  only_good : (k : Kind) (c : Change) (n : ℕ) → listed k n ≡ true → Good q l rs k (only k c n).answer
  unfolding only fit_all fits le
  only_good k c n e =
      record {
        layout = status_only k;
        values = le 2 n ∷ [];
        said = status-alone k n e;
        written =
            record {
              listed = Memᴰ.append_left (drop 5 responses) (Memᴰ.map status_only (kind_member k));
              fit = both (both (listed-bytes n (statuses k) e) refl) refl;
              number = refl;
              written = refl;
            };
        keys = no_keys (status_only k) _ (each-kind (λ j. lacks is_handle (status_only j)) refl k);
        tag = refl;
        unsigned = each-kind (λ j. lacks is_signed (status_only j)) refl k;
      }

  -- what is decided is good if each status that a failing check says is listed, and so is what comes when all pass
  decided : (k : Kind) (c : Change) (d : Decision) (cs : List Check) → Saying (λ n. listed k n ≡ true) cs
      → (Passed cs → Good q l rs k d.answer) → Good q l rs k (judge cs (only k c) d).answer
  unfolding judge
  decided k c d [] e g = g tt
  decided k c d (x ∷ cs) e g =
      split x.fails (λ f. rw f (only_good k c x.says (e.0 f))) (λ f. rw f (decided k c d cs e.1 (λ h. g (f, h))))

-- ---- GetInfo, Deregister, Open settings

info_fit : (l : Lent) → lent_ok get_info l ≡ true → fit_all info (info_fields l) ≡ true
unfolding lent_ok profile_ok fit_all fits le eq_bytes
info_fit l p =
    let a : fits aaid l.aaid ≡ true = search (and_left, and_right) in
    let m : fits metadata l.metadata ≡ true = search (and_left, and_right) in
    both (both (both a (both m refl)) refl) refl

module _ (q : List ℕ) (l : Lent) (rs : Table) where
  get_info_good : lent_ok get_info l ≡ true → Good q l rs get_info (decide_get_info q l).answer
  unfolding decide_get_info info_response
  get_info_good p =
      decided q l rs get_info keep _ _ ((λ f. refl), tt)
      (λ h. record {
        layout = info;
        values = info_fields l;
        said = the_profile;
        written = record { listed = member 5 end responses (omega arith); fit = info_fit l p; number = refl; written = refl };
        keys = no_keys info _ refl;
        tag = refl;
        unsigned = refl;
      })

  deregister_good : (mine : Table) → Good q l rs deregister (decide_deregister q mine).answer
  unfolding decide_deregister
  deregister_good mine =
      decided q l rs deregister keep _ _ ((λ f. refl), ((λ f. refl), tt)) (λ h. only_good q l rs deregister _ 0 refl)

  open_settings_good : Good q l rs open_settings (decide_open_settings q).answer
  unfolding decide_open_settings
  open_settings_good = decided q l rs open_settings keep _ _ ((λ f. refl), tt) (λ h. only_good q l rs open_settings _ 0x06 refl)

-- ---- Register

-- the lent number n, which is not 0, says one of these statuses
said-listed : (k : Kind) (ns : List ℕ) (n : ℕ) → all (listed k) ns ≡ true → leb n (length ns) ≡ true → not (eqb n 0) ≡ true
    → listed k (get_or (0 ∷ ns) n 0) ≡ true
said-listed k ns zero e b f = clash f refl
said-listed k ns (suc n) e b f = all_member (listed k) (member n 0 ns (omega (arith, leb-true (suc n) (length ns) b))) e

pub register_writes : (q : List ℕ) (l : Lent) → lent_ok register l ≡ true → broken register q ≡ false
    → WrittenBy (drafts register) (key_registration_data end) (register_fields q l) (register_draft q l)
unfolding le eq_bytes lent_ok profile_ok fit_all fits register_draft
register_writes q l p b =
    let o : profile_ok l ≡ true = search (and_left, and_right) in
    let a : fits aaid l.aaid ≡ true = search (and_left, and_right) in
    let i : fits key_id l.key_id ≡ true = search (and_left, and_right) in
    let k : fits public_key l.public_key ≡ true = search (and_left, and_right) in
    let c : fits challenge_hash (field_in challenge_hash q) ≡ true = field_fits register q challenge_hash b refl in
    let f : fit_all (key_registration_data end) (register_fields q l) ≡ true = both (both a (both c (both i (both k refl)))) refl in
    record { listed = member 0 end (drafts register) (omega arith); fit = f; number = refl; written = refl }

register_good : (q : List ℕ) (l : Lent) (rs mine : Table) (taken filled : Bool) → lent_ok register l ≡ true
    → Good q l rs register (decide_register q l mine taken filled).answer
unfolding decide_register register_checks lent_ok
register_good q l rs mine taken filled p =
    let v : leb l.verdict 5 ≡ true = search (and_left, and_right) in
    decided q l rs register keep _ _
    ((λ f. refl), ((λ f. said-listed register verdict_statuses l.verdict refl v f), ((λ f. refl), ((λ f. refl), ((λ f. refl), tt)))))
    (λ h. record {
      layout = key_registration_data end;
      values = register_fields q l;
      said = new_key;
      written = register_writes q l p h.0;
    })

-- ---- Sign

counted : (n a k : ℕ) → a ≤ k → k < a + n → Memᴰ k (numbers_from a n)
counted zero a k h b = absurd (omega arith)
counted (suc n) a k h b =
    split (eqb k a) (λ e. Memᴰ.head (eqb-true k a e))
    (λ e. let d = eqb-false k a e in Memᴰ.tail (counted n (suc a) k (omega arith) (omega arith)))

names_fit : (rs : Table) → all record_ok rs ≡ true → fit_all (name_pairs (length rs)) (name_fields rs) ≡ true
unfolding fit_all record_ok fits
names_fit [] e = refl
names_fit (r ∷ rs) e =
    let o : record_ok r ≡ true = and_left _ _ e in
    let n : fits username r.name ≡ true = search (and_left, and_right) in
    let k : fits key_id r.key_id ≡ true = search (and_left, and_right) in
    both (both n (both k refl)) (names_fit rs (and_right (record_ok r) _ e))

names-number : (rs : Table) → length (name_fields rs) ≡ size (name_pairs (length rs))
names-number [] = refl
names-number (r ∷ rs) = omega (arith, names-number rs)

names-keys : (rs : Table) (at : ℕ)
    → map (λ v. v.value) (select (λ v. is_handle v.tag) (leaves at (name_pairs (length rs)) (name_fields rs))) ≡ key_ids rs
unfolding nodes
names-keys [] at = refl
names-keys (r ∷ rs) at = ap (λ (ks : List (List ℕ)). r.key_id ∷ ks) (names-keys rs _)

pairs_unsigned : (n : ℕ) → lacks is_signed (name_pairs n) ≡ true
pairs_unsigned zero = refl
pairs_unsigned (suc n) = pairs_unsigned n

names_good : (q : List ℕ) (l : Lent) (rs : Table) → Tests rs → 2 ≤ length rs → length rs ≤ max_own
    → Good q l rs sign (response (name_response rs))
unfolding name_response fit_all fits le eq_bytes nodes
names_good q l rs t h m =
    record {
      layout = name_list (length rs);
      values = le 2 0 ∷ name_fields rs;
      said = the_names h;
      written =
          record {
            listed = Memᴰ.append_right (take 10 responses) (Memᴰ.map name_list (counted 7 2 (length rs) h (omega arith)));
            fit = both (names_fit rs t.each) refl;
            number = omega (arith, names-number rs);
            written = refl;
          };
      keys = rw (append-nil (nodes 10 (name_pairs (length rs)) (name_fields rs)), names-keys rs 10) t.once;
      tag = refl;
      unsigned = both (pairs_unsigned (length rs)) refl;
    }

pub signed-listed : (b : Bool) → Memᴰ (signed_data b end) (drafts sign)
signed-listed true = member 0 end (drafts sign) (omega arith)
signed-listed false = member 1 end (drafts sign) (omega arith)

count_fits : (n : ℕ) → n < max_count → fits new_count (le 4 (suc n)) ≡ true
unfolding fits
count_fits n h =
    rw (length-le 4 (suc n), num-le 4 (suc n) (omega arith)) (lt-ltb 0 (suc n) (omega arith))

pub sign_writes : (q : List ℕ) (l : Lent) (r : Record) → lent_ok sign l ≡ true → broken sign q ≡ false → record_ok r ≡ true
    → r.count < max_count
    → WrittenBy (drafts sign) (signed_data (has_content q) end) (sign_fields (has_content q) (transaction_hash q) q l r) (sign_draft q l r)
unfolding le lent_ok profile_ok record_ok fit_all fits sign_draft
sign_writes q l r p b o u =
    let m : profile_ok l ≡ true = search (and_left, and_right) in
    let a : fits aaid l.aaid ≡ true = search (and_left, and_right) in
    let n : fits nonce l.nonce ≡ true = search (and_left, and_right) in
    let k : fits key_id r.key_id ≡ true = search (and_left, and_right) in
    let c : fits challenge_hash (field_in challenge_hash q) ≡ true = field_fits sign q challenge_hash b refl in
    let mode : ℕ = cond (has_content q) 0x02 0x01 in
    record {
      listed = signed-listed (has_content q);
      fit =
          both (both a (both (eq-eqb mode mode refl) (both n (both c (both (hash_fits q) (both k
          (both (count_fits r.count u) refl))))))) refl;
      number = refl;
      written = refl;
    }

one_good : (q : List ℕ) (l : Lent) (r : Record) → broken sign q ≡ false → lent_ok sign l ≡ true → record_ok r ≡ true
    → Good q l (r ∷ []) sign (sign_one q l r).answer
unfolding sign_one lent_ok record_ok
one_good q l r b p o =
    let d : leb l.display 3 ≡ true = search (and_left, and_right) in
    let m : leb r.count max_count ≡ true = search (and_left, and_right) in
    decided q l (r ∷ []) sign keep _ _
    ((λ f. said-listed sign display_statuses l.display refl d (and_right (has_content q) _ f)), ((λ f. refl), tt))
    (λ g.
    let u : r.count < max_count = omega (arith, leb-true r.count max_count m, eqb-false r.count max_count g.1.0) in
    record {
      layout = signed_data (has_content q) end;
      values = sign_fields (has_content q) (transaction_hash q) q l r;
      said = one-chosen r refl;
      written = sign_writes q l r p b o u;
    })

chosen_good : (q : List ℕ) (l : Lent) (rs : Table) → broken sign q ≡ false → lent_ok sign l ≡ true → Tests rs → length rs ≤ max_own
    → Good q l rs sign (sign_chosen q l rs).answer
unfolding sign_chosen
chosen_good q l [] b p t m = only_good q l [] sign keep 0x02 refl
chosen_good q l (r ∷ []) b p t m = one_good q l r b p (and_left (record_ok r) _ t.each)
chosen_good q l (r ∷ o ∷ rs) b p t m = names_good q l (r ∷ o ∷ rs) t (omega arith) m

sign_good : (q : List ℕ) (l : Lent) (mine : Table) → lent_ok sign l ≡ true → Tests mine → length mine ≤ max_own
    → Good q l (chosen (fields_in key_handle q) mine) sign (decide_sign q l mine).answer
unfolding decide_sign chosen lent_ok
sign_good q l mine p t m =
    let v : leb l.verdict 5 ≡ true = search (and_left, and_right) in
    let asked : Record → Bool = λ r. empty (fields_in key_handle q) || among r.key_id (fields_in key_handle q) in
    decided q l (chosen (fields_in key_handle q) mine) sign keep _ _
    ((λ e. refl), ((λ e. said-listed sign verdict_statuses l.verdict refl v e), tt))
    (λ h. chosen_good q l _ h.0 p (select_keeps asked mine t) (omega (arith, length-select asked mine)))

-- ---- every command

perform_good : (k : Kind) (c : Call) (t : Table) → lent_ok k c.lent ≡ true → Tests t
    → Good c.command c.lent (picked c t) k (perform k c t).answer
unfolding perform decide
perform_good get_info c t p h = get_info_good c.command c.lent _ p
perform_good register c t p h = register_good c.command c.lent _ _ _ _ p
perform_good sign c t p h =
    sign_good c.command c.lent _ p (unfold own in select_keeps (has_mixed (mixed_of c)) t h) (h.own-few (mixed_of c))
perform_good deregister c t p h = deregister_good c.command c.lent _ _
perform_good open_settings c t p h = open_settings_good c.command c.lent _

module _ (c : Call) (g : Given) (e : Effect) (a : Accepted c g e) where
  good : Good c.command c.lent (picked c a.table) (kind c) e.answer
  good = rw (← a.done) (perform_good (kind c) c a.table a.lent_ok (tests a.table (given-ok g a.table a.read)))

  pub command_writes : (s : List ℕ) → e.answer ≡ response s → Responded c.lent (picked c a.table) (kind c) s
  command_writes s q = subst (Good c.command c.lent (picked c a.table) (kind c)) q good

  pub command_drafts : (d : List ℕ) → e.answer ≡ draft d → WroteDraft c.command c.lent (picked c a.table) (kind c) d
  command_drafts d q = subst (Good c.command c.lent (picked c a.table) (kind c)) q good

-- ---- it fits the output

pub drafts_small : (k : Kind) → all small (drafts k) ≡ true
unfolding le
drafts_small k = each-kind (λ j. all small (drafts j)) refl k

pub answer-fits : (c : Call) (g : Given) (e : Effect) → outcome c g ≡ gave e → length (bytes_of e.answer) ≤ least_output
answer-fits c g e p = go e.answer (good c g e (accepted c g e p))
  where
    go : (a : Answer) → Good c.command c.lent (picked c (accepted c g e p).table) (kind c) a → length (bytes_of a) ≤ least_output
    go (response s) h = written-length responses-small h.written
    go (draft d) h = written-length (drafts_small (kind c)) h.written

-- ---- completion takes every draft that a command writes

pub draft_taken : (c : Call) (g : Given) (e : Effect) (d : List ℕ) → outcome c g ≡ gave e → e.answer ≡ draft d
    → is_draft (completion_kind (kind c)) d ≡ true
unfolding is_draft
draft_taken c g e d p q = written-reads (drafts_small (kind c)) (command_drafts c g e (accepted c g e p) d q).written

-- what holds of each draft's layout holds of those of this kind
pub drafts_each : (P : Layout → Type 0) (k : ℕ) → (k ≡ 0 → P (key_registration_data end)) → ((b : Bool) → k ≡ 1 → P (signed_data b end))
    → Each P (drafts_of k)
drafts_each P k f g =
    split (eqb k 0) (λ e. rw e (f (eqb-true k 0 e), tt))
    (λ e. rw e (split (eqb k 1) (λ i. let z = eqb-true k 1 i in rw i (g true z, (g false z, tt))) (λ i. rw i tt)))
