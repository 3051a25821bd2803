-- All that a reader must believe: document 01, heading by heading ("Commands" in three files), in its order and words. Words in quotes are
-- document 01's. Lists has the words for lists, Utf8 what RFC 3629 says (request A1 of document 02), Sha256 what FIPS 180-4 says (request A4),
-- Layouts the form of every structure that is written and read, Writer the writers of commands (request A2), Withdrawals the withdrawal (request A5).
--
-- How to read it. `List ℕ` is a stretch of bytes; `x ∷ xs` a list with x in front, `++` puts two together, `get_or xs i d` is the element at
-- place i or else d, `take n` and `drop n` cut at n. `leb`, `ltb`, `eqb` test for ≤, < and =; `&&`, `||`, `not` join tests; `cond b x y` is x if
-- b holds, else y. `some x` is there, `none` is not, `Option.get_or o d` is what is there or else d. `record` and `data` declare types. `abbrev` and
-- `unfoldable` say only how far the checker looks into a definition, and `pub` that others may name it.
pub mod Lists
pub mod Utf8
pub mod Sha256
pub mod Tlv
pub mod Layouts
pub mod Records
pub mod Commands
pub mod Writer
pub mod Complete
pub mod Reader
pub mod Withdrawals
pub mod Traces
