-- Text in ASCII: the list of its characters' codes.
use Rattle.std.specs.Prelude.{List, [] as none, ◌∷◌ as ◌then◌, ℕ}
use Prim.Native.Char.{code}
use Prim.Native.String.{String, [], ◌∷◌}

unfoldable pub ascii : String → List ℕ
ascii [] = none
ascii (c ∷ s) = ◌then◌ (code c) (ascii s)

abbrev pub blank : ℕ
blank = 32

abbrev pub line_feed : ℕ
line_feed = 10
