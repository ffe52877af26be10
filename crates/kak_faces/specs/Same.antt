-- Whether two faces are the same.
use Rattle.std.specs.Prelude.{ℕ, Bool, true, false, not, ◌&&◌, ◌==◌, if◌then◌else◌}
use Rattle.kak_faces.specs.declared.colour.NamedColour.{NamedColour}
use Rattle.kak_faces.specs.declared.colour.NamedColour.TheVariants as named
use Rattle.kak_faces.specs.declared.colour.Colour.{Colour}
use Rattle.kak_faces.specs.declared.colour.Colour.TheVariants.{Named, Rgb}
use Rattle.kak_faces.specs.declared.colour.Attributes.{Attributes}
use Rattle.kak_faces.specs.declared.face.Face.{Face}

-- the place of a colour in the palette, from 0
abbrev pub palette_place : NamedColour → ℕ
palette_place named.Default = 0
palette_place named.Black = 1
palette_place named.Red = 2
palette_place named.Green = 3
palette_place named.Yellow = 4
palette_place named.Blue = 5
palette_place named.Magenta = 6
palette_place named.Cyan = 7
palette_place named.White = 8
palette_place named.BrightBlack = 9
palette_place named.BrightRed = 10
palette_place named.BrightGreen = 11
palette_place named.BrightYellow = 12
palette_place named.BrightBlue = 13
palette_place named.BrightMagenta = 14
palette_place named.BrightCyan = 15
palette_place named.BrightWhite = 16

-- whether two colours are the same
abbrev pub same_colour : Colour → Colour → Bool
same_colour (Named a) (Named b) = palette_place a == palette_place b
same_colour (Rgb r g b) (Rgb x y z) = r == x && g == y && b == z
same_colour _ _ = false

-- whether two words are the same
abbrev pub same_word : Bool → Bool → Bool
same_word a b = if a then b else not b

-- whether two sets of attributes are the same
abbrev pub same_attributes : Attributes → Attributes → Bool
same_attributes a b =
    same_word a.underline b.underline && same_word a.reverse b.reverse && same_word a.bold b.bold
    && same_word a.blink b.blink && same_word a.dim b.dim && same_word a.italic b.italic
    && same_word a.final_fg b.final_fg && same_word a.final_bg b.final_bg && same_word a.final_attr b.final_attr

-- whether two faces are the same
abbrev pub same_face : Face → Face → Bool
same_face a b =
    same_colour a.fg b.fg && same_colour a.bg b.bg && same_colour a.underline b.underline
    && same_attributes a.attributes b.attributes
