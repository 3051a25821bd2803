-- Eight words as a hash value of the definition, and an array that has the first words of a schedule.
use Rattle.std.specs.Prelude.{◌≡◌, ℕ, List, take}
use Rattle.model.specs.Sha256.{State, extend}
use Rattle.sha256.specs.declared.words.Words.{Words}

abbrev pub view : Words → State
view w = record { a = w.a; b = w.b; c = w.c; d = w.d; e = w.e; f = w.f; g = w.g; h = w.h }

-- the first n words of w are those of the schedule of a block with the words x
abbrev pub Begun : ℕ → List ℕ → List ℕ → Type 0
Begun n x w = take n w ≡ take n (extend 48 x)
