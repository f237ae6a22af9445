-- The room that an input's page needs. Assumes nothing.
use mathlib.Core.Path.{◌≡◌, refl}
use mathlib.Core.List.{List, map}
use Prim.Native.Nat.{ℕ, ◌≤◌}
use native.Mathlib.Omega.{arith}
use lib.Dec.{lit≤}
use lib.ListN.{length, length-map}
use Rattle.laws.specs.Bytes.{AllBytes}
use Rattle.replay.specs.Rules.{pending}
use Rattle.replay.specs.Recovery.{Recovery, refused, recovered, recover}
use Rattle.bounds.proofs.Bounds.{bounds}
use Rattle.page_text.specs.Page.{page_of, program_rows, input_page}
use Rattle.page_text.specs.Request01.{said, shown}
use Rattle.page_text.proofs.Lines.{length_fed}
use Rattle.page_text.proofs.Sheets.{few_parts, length_sheets}
use Rattle.page_text.proofs.Printed.{bottom, page_lines, Prints, refused_prints, prints}
use Rattle.page_text.proofs.InputCases.{input_cases}

abbrev HasRoom : Recovery → Type 0
HasRoom x = length (page_of x) ≤ 309301

lines_room : (x : Recovery) → Prints x → length (page_lines x) ≤ 4237 → HasRoom x
lines_room x h few = rw (h.is, length_fed h.each) (omega arith)

refused_room : (n p : ℕ) → n ≤ 18 → HasRoom (refused n p)
unfolding page_lines
refused_room n p h = lines_room (refused n p) (refused_prints n p h) (lit≤ tt)

-- 4,095 rows, one for each 16 bytes, and 71 headings and feet
recovered_room : (k : ℕ) (s : List ℕ) (size own : ℕ) → AllBytes s → length s ≤ 65533 → (x : Recovery)
    → recover k s (length s) size own program_rows ≡ x → HasRoom x
unfolding page_lines
recovered_room k s size own bytes short (refused n p) is =
    refused_room n p (bounds.number k s (length s) size own program_rows n p is)
recovered_room k s size own bytes short (recovered w e l) is =
    let rows = map said (map shown (pending l)) in
    let many : length rows ≡ length (pending l) = simp length-map in
    let few = bounds.few k s (length s) size own program_rows w e l bytes is in
    lines_room (recovered w e l) (prints k s (length s) size own program_rows bytes (recovered w e l) is)
    (omega (arith, few.pending, many, few_parts rows, length_sheets (bottom w l) rows))

pub room : (input : List ℕ) → AllBytes input → length (input_page input) ≤ 309301
unfolding input_page
room input bytes =
    input_cases HasRoom (refused_room 1 0 (lit≤ tt)) (refused_room 2 0 (lit≤ tt))
    (λ k s size own b h. recovered_room k s size own b h (recover k s (length s) size own program_rows) refl) input bytes
