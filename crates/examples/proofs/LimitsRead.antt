-- The numbers of document 01, "Complete", "Read a response" and the stored form: tables as in Limits.
-- Assumes nothing.
use mathlib.Core.Path.{◌≡◌, refl}
use mathlib.Core.Bool.{Bool, not}
use mathlib.Core.List.{List, [], ◌∷◌, ◌++◌, map}
use mathlib.Core.Option.{Option, none, some}
use Prim.Native.Nat.{ℕ, zero, suc, ◌+◌, ◌*◌, ◌/◌}
use lib.ListN.{length, take, drop, get_or, replicate}
use lib.Dec.{eqb}
use Rattle.model.specs.Lists.{select}
use Rattle.model.specs.Tlv.{Tlv, tlv, bytes}
use Rattle.model.specs.Layouts.{reads}
use Rattle.model.specs.Records.{Table, encode, decode}
use Rattle.model.specs.Commands.{Result, refused, gave, table_of}
use Rattle.model.specs.Complete.{is_draft, completion_ok, completed, complete}
use Rattle.model.specs.Reader.{Part, parts_at, parts, field_parts, is_response, signed_part, read_response}
use Rattle.model.specs.Traces.{Form, itself, in_stored_form, handed}
use Rattle.model.proofs.Basics.{numbers_from}
use Rattle.model.proofs.Computing.{computing, each-form, info, ann_then_bo_listed, krd, signed_data_of}
use Rattle.model.proofs.Witness.{zeros}
use Rattle.examples.proofs.Limits.{Line, ◌gives◌, Holds, holds}

-- to unfold `reading` is to unfold all that a completion and the reader compute with
unfoldable pub reading : Unit {0}
unfolding computing is_draft completion_ok completed complete reads parts_at parts field_parts is_response signed_part read_response
reading = tt

-- ---- completion

-- SIGNED_DATA with this count; of 91 bytes without content
abbrev counting : ℕ → ℕ → List ℕ → ℕ → List ℕ
counting size mode hash n = signed_data_of size mode hash 0xD0 (n ∷ 0x00 ∷ 0x00 ∷ 0x00 ∷ [])

abbrev no_hash : List ℕ
no_hash = 0x00 ∷ 0x00 ∷ []

abbrev hash32 : List ℕ
hash32 = 0x20 ∷ 0x00 ∷ replicate 32 0xD4

abbrev signed_data : List ℕ
signed_data = counting 0x57 0x01 no_hash 0x08

abbrev content_signed : List ℕ
content_signed = counting 0x77 0x02 hash32 0x08

-- what completion makes of them with a signature of 3 bytes and a certificate of 2: 122 and 116 bytes
abbrev registered : List ℕ
registered =
    0x02 ∷ 0x36 ∷ 0x76 ∷ 0x00 ∷ 0x08 ∷ 0x28 ∷ 0x02 ∷ 0x00 ∷ 0x00 ∷ 0x00
    ∷ 0x0F ∷ 0x28 ∷ 0x6C ∷ 0x00 ∷ 0x01 ∷ 0x3E ∷ 0x68 ∷ 0x00 ∷ krd
    ++ (0x07 ∷ 0x3E ∷ 0x0D ∷ 0x00 ∷ 0x06 ∷ 0x2E ∷ 0x03 ∷ 0x00 ∷ 0x11 ∷ 0x12 ∷ 0x13 ∷ 0x05 ∷ 0x2E ∷ 0x02 ∷ 0x00 ∷ 0x21 ∷ 0x22 ∷ [])

abbrev signed : List ℕ
signed =
    0x03 ∷ 0x36 ∷ 0x70 ∷ 0x00 ∷ 0x08 ∷ 0x28 ∷ 0x02 ∷ 0x00 ∷ 0x00 ∷ 0x00
    ∷ 0x0F ∷ 0x28 ∷ 0x66 ∷ 0x00 ∷ 0x02 ∷ 0x3E ∷ 0x62 ∷ 0x00 ∷ signed_data
    ++ (0x06 ∷ 0x2E ∷ 0x03 ∷ 0x00 ∷ 0x11 ∷ 0x12 ∷ 0x13 ∷ [])

-- 100 + n for refusal n, else what is made of the result
abbrev numbers : {A : Type 0} → (A → List ℕ) → Result A → List ℕ
numbers f (refused n) = (100 + n) ∷ []
numbers f (gave a) = f a

-- with a signature and a certificate of so many zeros: the response's length
abbrev ends : ℕ → List ℕ → (type signature certificate output : ℕ) → List ℕ
ends kind d type s c n =
    numbers (λ r. length r ∷ [])
    (complete (record { kind = kind; draft = d; type = type; signature = zeros s; certificate = zeros c; output = n }))

-- with the signature of `registered` and `signed`: the response
abbrev makes : ℕ → List ℕ → (type : ℕ) → (certificate : List ℕ) → List ℕ
makes kind d type c =
    numbers (λ r. r)
    (complete (record { kind = kind; draft = d; type = type; signature = 0x11 ∷ 0x12 ∷ 0x13 ∷ []; certificate = c; output = 4096 }))

abbrev completions : List Line
completions =
    makes 0 krd 0x3E07 (0x21 ∷ 0x22 ∷ []) gives registered
    ∷ makes 1 signed_data 0x3E07 (0x21 ∷ 0x22 ∷ []) gives signed
    -- full, surrogate, another type
    ∷ ends 0 krd 0x3E07 1 1 4096 gives (119 ∷ [])
    ∷ ends 0 krd 0x3E07 512 2048 4096 gives (2677 ∷ [])
    ∷ ends 0 krd 0x3E07 0 1 4096 gives (104 ∷ [])
    ∷ ends 0 krd 0x3E07 513 1 4096 gives (104 ∷ [])
    ∷ ends 0 krd 0x3E07 1 0 4096 gives (104 ∷ [])
    ∷ ends 0 krd 0x3E07 1 2049 4096 gives (104 ∷ [])
    ∷ ends 0 krd 0x3E08 1 0 4096 gives (114 ∷ [])
    ∷ ends 0 krd 0x3E08 512 0 4096 gives (625 ∷ [])
    ∷ ends 0 krd 0x3E08 0 0 4096 gives (104 ∷ [])
    ∷ ends 0 krd 0x3E08 513 0 4096 gives (104 ∷ [])
    ∷ ends 0 krd 0x3E08 1 1 4096 gives (104 ∷ [])
    ∷ ends 0 krd 0x3E08 1 2048 4096 gives (104 ∷ [])
    ∷ ends 0 krd 0x3E06 1 1 4096 gives (104 ∷ [])
    ∷ ends 0 krd 0x3E09 1 0 4096 gives (104 ∷ [])
    -- Sign, whatever type and certificate
    ∷ ends 1 signed_data 0 1 0 4096 gives (114 ∷ [])
    ∷ ends 1 signed_data 0x3E08 512 2049 4096 gives (625 ∷ [])
    ∷ ends 1 signed_data 0x3E07 0 1 4096 gives (104 ∷ [])
    ∷ ends 1 signed_data 0x3E07 513 1 4096 gives (104 ∷ [])
    -- the kind, and drafts that no command writes for it
    ∷ ends 2 krd 0x3E07 1 1 4096 gives (105 ∷ [])
    ∷ ends 2 signed_data 0x3E07 1 1 4096 gives (105 ∷ [])
    ∷ ends 1 krd 0x3E07 1 1 4096 gives (105 ∷ [])
    ∷ ends 0 signed_data 0x3E07 1 1 4096 gives (105 ∷ [])
    ∷ ends 0 (krd ++ zeros 1) 0x3E07 1 1 4096 gives (105 ∷ [])
    ∷ ends 0 [] 0x3E07 1 1 4096 gives (105 ∷ [])
    ∷ ends 1 content_signed 0 1 0 4096 gives (146 ∷ [])
    ∷ ends 1 (counting 0x77 0x01 hash32 0x01) 0 1 0 4096 gives (105 ∷ [])
    ∷ ends 1 (counting 0x57 0x02 no_hash 0x01) 0 1 0 4096 gives (105 ∷ [])
    ∷ ends 1 (counting 0x57 0x00 no_hash 0x01) 0 1 0 4096 gives (105 ∷ [])
    ∷ ends 1 (counting 0x57 0x01 no_hash 0x00) 0 1 0 4096 gives (105 ∷ [])
    -- 1 before 5 before 4
    ∷ ends 0 krd 0x3E07 1 1 4095 gives (101 ∷ [])
    ∷ ends 2 krd 0x3E07 1 1 4095 gives (101 ∷ [])
    ∷ ends 0 krd 0x3E07 0 1 4095 gives (101 ∷ [])
    ∷ ends 2 krd 0x3E07 0 1 4096 gives (105 ∷ [])
    ∷ []

pub completion_limits : Holds completions
unfolding reading
completion_limits = holds completions refl

-- ---- the reader: the signed stretch's place and length, the response tag, the status; then tag, place and length of each field

abbrev flat : List Part → List ℕ
flat [] = []
flat (p ∷ ps) = p.tag ∷ p.place ∷ p.size ∷ flat ps

abbrev read : List ℕ → List ℕ
read s = numbers (λ r. r.signed.place ∷ r.signed.size ∷ r.tag ∷ r.status ∷ flat r.fields) (read_response s)

abbrev readable : List ℕ → Bool
readable s = not (eqb (length (read s)) 1)

-- a status alone
abbrev alone : ℕ → List ℕ → List ℕ
alone t v = bytes (tlv t (bytes (tlv 0x2808 v ∷ [])) ∷ [])

abbrev readings : List Line
readings =
    read (alone 0x3604 (0x00 ∷ 0x00 ∷ [])) gives (0 ∷ 0 ∷ 0x3604 ∷ 0x00 ∷ 0x2808 ∷ 8 ∷ 2 ∷ [])
    ∷ read (alone 0x3602 (0x10 ∷ 0x00 ∷ [])) gives (0 ∷ 0 ∷ 0x3602 ∷ 0x10 ∷ 0x2808 ∷ 8 ∷ 2 ∷ [])
    ∷ read info
    gives (0 ∷ 0 ∷ 0x3601 ∷ 0x00 ∷ 0x2808 ∷ 8 ∷ 2 ∷ 0x280E ∷ 14 ∷ 1 ∷ 0x280D ∷ 23 ∷ 1 ∷ 0x2E0B ∷ 28 ∷ 9 ∷ 0x2809 ∷ 41 ∷ 15
    ∷ 0x280C ∷ 60 ∷ 10 ∷ 0x280A ∷ 74 ∷ 8 ∷ 0x2807 ∷ 86 ∷ 2 ∷ 0x2807 ∷ 92 ∷ 2 ∷ [])
    ∷ read ann_then_bo_listed
    gives (0 ∷ 0 ∷ 0x3603 ∷ 0x00 ∷ 0x2808 ∷ 8 ∷ 2 ∷ 0x2806 ∷ 18 ∷ 3 ∷ 0x2801 ∷ 25 ∷ 32 ∷ 0x2806 ∷ 65 ∷ 2 ∷ 0x2801 ∷ 71 ∷ 32 ∷ [])
    ∷ read registered
    gives (18 ∷ 87 ∷ 0x3602 ∷ 0x00 ∷ 0x2808 ∷ 8 ∷ 2 ∷ 0x2E0B ∷ 26 ∷ 9 ∷ 0x2E0E ∷ 39 ∷ 7 ∷ 0x2E0A ∷ 50 ∷ 1 ∷ 0x2E09 ∷ 55 ∷ 32
    ∷ 0x2E0D ∷ 91 ∷ 8 ∷ 0x2E0C ∷ 103 ∷ 2 ∷ 0x2E06 ∷ 113 ∷ 3 ∷ 0x2E05 ∷ 120 ∷ 2 ∷ [])
    ∷ read signed
    gives (18 ∷ 91 ∷ 0x3603 ∷ 0x00 ∷ 0x2808 ∷ 8 ∷ 2 ∷ 0x2E0B ∷ 26 ∷ 9 ∷ 0x2E0E ∷ 39 ∷ 5 ∷ 0x2E0F ∷ 48 ∷ 8 ∷ 0x2E0A ∷ 60 ∷ 1
    ∷ 0x2E10 ∷ 65 ∷ 0 ∷ 0x2E09 ∷ 69 ∷ 32 ∷ 0x2E0D ∷ 105 ∷ 4 ∷ 0x2E06 ∷ 113 ∷ 3 ∷ [])
    -- surrogate, and Sign with content
    ∷ read (makes 0 krd 0x3E08 [])
    gives (18 ∷ 87 ∷ 0x3602 ∷ 0x00 ∷ 0x2808 ∷ 8 ∷ 2 ∷ 0x2E0B ∷ 26 ∷ 9 ∷ 0x2E0E ∷ 39 ∷ 7 ∷ 0x2E0A ∷ 50 ∷ 1 ∷ 0x2E09 ∷ 55 ∷ 32
    ∷ 0x2E0D ∷ 91 ∷ 8 ∷ 0x2E0C ∷ 103 ∷ 2 ∷ 0x2E06 ∷ 113 ∷ 3 ∷ [])
    ∷ read (makes 1 content_signed 0 [])
    gives (18 ∷ 123 ∷ 0x3603 ∷ 0x00 ∷ 0x2808 ∷ 8 ∷ 2 ∷ 0x2E0B ∷ 26 ∷ 9 ∷ 0x2E0E ∷ 39 ∷ 5 ∷ 0x2E0F ∷ 48 ∷ 8 ∷ 0x2E0A ∷ 60 ∷ 1
    ∷ 0x2E10 ∷ 65 ∷ 32 ∷ 0x2E09 ∷ 101 ∷ 32 ∷ 0x2E0D ∷ 137 ∷ 4 ∷ 0x2E06 ∷ 145 ∷ 3 ∷ [])
    -- a draft alone, nothing
    ∷ read krd gives (105 ∷ [])
    ∷ read signed_data gives (105 ∷ [])
    ∷ read [] gives (105 ∷ [])
    ∷ []

pub reader_places : Holds readings
unfolding reading
reader_places = holds readings refl

-- ---- what the reader refuses

-- of the numbers below 18 the statuses that may stand alone in this response
abbrev statuses : ℕ → List ℕ
statuses t = select (λ n. readable (alone t (n ∷ 0x00 ∷ []))) (numbers_from 0 18)

-- a list of names of n bytes for these KeyIDs
abbrev names : ℕ → List ℕ → List ℕ
names n ks =
    bytes
    (tlv 0x3603
    (bytes
    (tlv 0x2808 (0x00 ∷ 0x00 ∷ [])
    ∷ map (λ k. tlv 0x3802 (bytes (tlv 0x2806 (zeros n) ∷ tlv 0x2801 (replicate 32 k) ∷ []))) ks))
    ∷ [])

-- of these places those at which a response still reads with a byte one higher; of these lengths those at which it reads, cut or with a zero more
abbrev higher : ℕ → List ℕ → List ℕ
higher i s = take i s ++ (suc (get_or s i 0) ∷ drop (suc i) s)

abbrev free : List ℕ → List ℕ → List ℕ
free s ns = select (λ i. readable (higher i s)) ns

abbrev ending : List ℕ → List ℕ → List ℕ
ending s ns = select (λ n. readable (take n (s ++ zeros 1))) ns

abbrev refusals : List Line
refusals =
    statuses 0x3601 gives (0x08 ∷ [])
    ∷ statuses 0x3602 gives (0x01 ∷ 0x02 ∷ 0x03 ∷ 0x05 ∷ 0x07 ∷ 0x08 ∷ 0x0E ∷ 0x0F ∷ 0x10 ∷ [])
    ∷ statuses 0x3603 gives (0x01 ∷ 0x02 ∷ 0x03 ∷ 0x04 ∷ 0x05 ∷ 0x08 ∷ 0x0E ∷ 0x10 ∷ [])
    ∷ statuses 0x3604 gives (0x00 ∷ 0x02 ∷ 0x08 ∷ [])
    ∷ statuses 0x3605 gives []
    ∷ statuses 0x3606 gives (0x06 ∷ 0x08 ∷ [])
    ∷ select (λ n. readable (names 1 (numbers_from 0 n))) (numbers_from 0 10) gives numbers_from 2 7
    ∷ select (λ n. readable (names n (1 ∷ 2 ∷ []))) (0 ∷ 1 ∷ 128 ∷ 129 ∷ []) gives (1 ∷ 128 ∷ [])
    ∷ (length (read (names 1 (numbers_from 0 8))) ∷ []) gives ((4 + 3 * 17) ∷ [])
    ∷ read (names 1 (1 ∷ 1 ∷ [])) gives (105 ∷ [])
    ∷ read (names 1 (1 ∷ 2 ∷ 3 ∷ 1 ∷ [])) gives (105 ∷ [])
    ∷ []

pub reader_refusals : Holds refusals
unfolding reading
reader_refusals = holds refusals refl

abbrev changes : List Line
changes =
    free (alone 0x3604 (0x00 ∷ 0x00 ∷ [])) (numbers_from 0 10) gives []
    ∷ free info (numbers_from 0 94) gives (numbers_from 28 9 ++ numbers_from 41 15)
    -- all but most bytes of a KeyID
    ∷ free ann_then_bo_listed (numbers_from 0 26 ++ numbers_from 57 15) gives (numbers_from 18 3 ++ numbers_from 25 1 ++ numbers_from 65 2 ++ numbers_from 71 1)
    ∷ free registered (numbers_from 0 56 ++ numbers_from 87 35)
    gives (numbers_from 26 9 ++ numbers_from 39 2 ++ numbers_from 42 4 ++ numbers_from 50 1 ++ numbers_from 55 1 ++ numbers_from 103 2 ++ numbers_from 113 3 ++ numbers_from 120 2)
    ∷ free signed (numbers_from 0 70 ++ numbers_from 101 15)
    gives (numbers_from 26 9 ++ numbers_from 39 2 ++ numbers_from 42 2 ++ numbers_from 48 8 ++ numbers_from 60 1 ++ numbers_from 69 1 ++ numbers_from 105 4 ++ numbers_from 113 3)
    ∷ ending (alone 0x3604 (0x00 ∷ 0x00 ∷ [])) (numbers_from 0 12) gives (10 ∷ [])
    ∷ ending info (93 ∷ 94 ∷ 95 ∷ []) gives (94 ∷ [])
    ∷ ending ann_then_bo_listed (56 ∷ 57 ∷ 102 ∷ 103 ∷ 104 ∷ []) gives (103 ∷ [])
    ∷ ending registered (105 ∷ 121 ∷ 122 ∷ 123 ∷ []) gives (122 ∷ [])
    ∷ ending signed (109 ∷ 115 ∷ 116 ∷ 117 ∷ []) gives (116 ∷ [])
    ∷ []

pub changed_bytes : Holds changes
unfolding reading
changed_bytes = holds changes refl

-- ---- the stored form

abbrev ann : Table
ann = record { key_id = replicate 32 0xAA; mixed = replicate 32 0xC0; name = 0x41 ∷ 0x6E ∷ 0x6E ∷ []; count = 0x01020304 } ∷ []

abbrev ann_stored : List ℕ
ann_stored =
    0x02 ∷ 0x38 ∷ 0x57 ∷ 0x00 ∷ 0x09 ∷ 0x2E ∷ 0x20 ∷ 0x00 ∷ replicate 32 0xAA
    ++ (0x05 ∷ 0x28 ∷ 0x20 ∷ 0x00 ∷ replicate 32 0xC0
    ++ (0x06 ∷ 0x28 ∷ 0x03 ∷ 0x00 ∷ 0x41 ∷ 0x6E ∷ 0x6E ∷ 0x0D ∷ 0x2E ∷ 0x04 ∷ 0x00 ∷ 0x04 ∷ 0x03 ∷ 0x02 ∷ 0x01 ∷ []))

pub ann-stored : (encode ann ≡ ann_stored) × (decode ann_stored ≡ some ann)
unfolding computing
ann-stored = (refl, refl)

-- 102 for no table, else how many records it has
abbrev records : Option Table → List ℕ
records none = 102 ∷ []
records (some t) = length t ∷ []

abbrev decodes : List Tlv → List ℕ
decodes cs = records (decode (bytes (tlv 0x3802 (bytes cs) ∷ [])))

abbrev key : ℕ → Tlv
key n = tlv 0x2E09 (zeros n)

abbrev mixed : ℕ → Tlv
mixed n = tlv 0x2805 (zeros n)

abbrev name : ℕ → Tlv
name n = tlv 0x2806 (zeros n)

abbrev count : ℕ → Tlv
count n = tlv 0x2E0D (zeros n)

-- n records with different KeyIDs, d with one mixed token
abbrev crowd : ℕ → ℕ → Table
crowd d zero = []
crowd d (suc n) = record { key_id = replicate 32 n; mixed = replicate 32 (n / d); name = 0x41 ∷ []; count = 7 } ∷ crowd d n

abbrev stored_forms : List Line
stored_forms =
    decodes (key 32 ∷ mixed 32 ∷ name 1 ∷ count 4 ∷ []) gives (1 ∷ [])
    ∷ decodes (key 32 ∷ mixed 32 ∷ name 128 ∷ count 4 ∷ []) gives (1 ∷ [])
    ∷ records (decode (encode (crowd 8 32))) gives (32 ∷ [])
    -- lengths
    ∷ decodes (key 31 ∷ mixed 32 ∷ name 1 ∷ count 4 ∷ []) gives (102 ∷ [])
    ∷ decodes (key 33 ∷ mixed 32 ∷ name 1 ∷ count 4 ∷ []) gives (102 ∷ [])
    ∷ decodes (key 32 ∷ mixed 31 ∷ name 1 ∷ count 4 ∷ []) gives (102 ∷ [])
    ∷ decodes (key 32 ∷ mixed 33 ∷ name 1 ∷ count 4 ∷ []) gives (102 ∷ [])
    ∷ decodes (key 32 ∷ mixed 32 ∷ name 0 ∷ count 4 ∷ []) gives (102 ∷ [])
    ∷ decodes (key 32 ∷ mixed 32 ∷ name 129 ∷ count 4 ∷ []) gives (102 ∷ [])
    ∷ decodes (key 32 ∷ mixed 32 ∷ name 1 ∷ count 3 ∷ []) gives (102 ∷ [])
    ∷ decodes (key 32 ∷ mixed 32 ∷ name 1 ∷ count 5 ∷ []) gives (102 ∷ [])
    -- exchanged, missing, one more
    ∷ decodes (mixed 32 ∷ key 32 ∷ name 1 ∷ count 4 ∷ []) gives (102 ∷ [])
    ∷ decodes (key 32 ∷ name 1 ∷ mixed 32 ∷ count 4 ∷ []) gives (102 ∷ [])
    ∷ decodes (key 32 ∷ mixed 32 ∷ count 4 ∷ name 1 ∷ []) gives (102 ∷ [])
    ∷ decodes (mixed 32 ∷ name 1 ∷ count 4 ∷ []) gives (102 ∷ [])
    ∷ decodes (key 32 ∷ mixed 32 ∷ name 1 ∷ []) gives (102 ∷ [])
    ∷ decodes (key 32 ∷ mixed 32 ∷ name 1 ∷ count 4 ∷ count 4 ∷ []) gives (102 ∷ [])
    ∷ decodes (key 32 ∷ mixed 32 ∷ name 1 ∷ count 4 ∷ tlv 0x0FFF [] ∷ []) gives (102 ∷ [])
    -- a byte or a TLV behind it, a byte cut off, another tag
    ∷ records (decode (ann_stored ++ zeros 1)) gives (102 ∷ [])
    ∷ records (decode (ann_stored ++ (0xFF ∷ 0x0F ∷ 0x00 ∷ 0x00 ∷ []))) gives (102 ∷ [])
    ∷ records (decode (take 90 ann_stored)) gives (102 ∷ [])
    ∷ records (decode (0x03 ∷ drop 1 ann_stored)) gives (102 ∷ [])
    ∷ []

pub stored-forms : Holds stored_forms
unfolding computing
stored-forms = holds stored_forms refl

-- in both forms: 33 records, 9 with one mixed token, a KeyID twice
abbrev tables : Form → List Line
tables f =
    records (table_of (handed f (crowd 8 33))) gives (102 ∷ [])
    ∷ records (table_of (handed f (crowd 9 9))) gives (102 ∷ [])
    ∷ records (table_of (handed f (ann ++ crowd 8 2))) gives (3 ∷ [])
    ∷ records (table_of (handed f (ann ++ crowd 8 2 ++ ann))) gives (102 ∷ [])
    ∷ []

pub table_rules : (f : Form) → Holds (tables f)
unfolding computing
table_rules = each-form _ (holds (tables itself) refl) (holds (tables in_stored_form) refl)
