-- Colours, their names, and sets of attributes.
use Rattle.std.specs.Prelude.{ℕ, List, [], ◌∷◌, Bool, true, false, ◌||◌, codes}
use Rattle.kak_faces.specs.declared.colour.NamedColour.{NamedColour}
use Rattle.kak_faces.specs.declared.colour.NamedColour.TheVariants as named
use Rattle.kak_faces.specs.declared.colour.Colour.{Colour}
use Rattle.kak_faces.specs.declared.colour.Colour.TheVariants.{Named, Rgb}
use Rattle.kak_faces.specs.declared.colour.Attribute.{Attribute}
use Rattle.kak_faces.specs.declared.colour.Attribute.TheVariants as attribute
use Rattle.kak_faces.specs.declared.colour.Attributes.{Attributes}

-- the name of a colour
abbrev pub colour_name : NamedColour → List ℕ
colour_name named.Default = codes "default"
colour_name named.Black = codes "black"
colour_name named.Red = codes "red"
colour_name named.Green = codes "green"
colour_name named.Yellow = codes "yellow"
colour_name named.Blue = codes "blue"
colour_name named.Magenta = codes "magenta"
colour_name named.Cyan = codes "cyan"
colour_name named.White = codes "white"
colour_name named.BrightBlack = codes "bright-black"
colour_name named.BrightRed = codes "bright-red"
colour_name named.BrightGreen = codes "bright-green"
colour_name named.BrightYellow = codes "bright-yellow"
colour_name named.BrightBlue = codes "bright-blue"
colour_name named.BrightMagenta = codes "bright-magenta"
colour_name named.BrightCyan = codes "bright-cyan"
colour_name named.BrightWhite = codes "bright-white"

-- the name of an attribute
abbrev pub attribute_name : Attribute → List ℕ
attribute_name attribute.Underline = codes "underline"
attribute_name attribute.Reverse = codes "reverse"
attribute_name attribute.Bold = codes "bold"
attribute_name attribute.Blink = codes "blink"
attribute_name attribute.Dim = codes "dim"
attribute_name attribute.Italic = codes "italic"
attribute_name attribute.FinalFg = codes "final_fg"
attribute_name attribute.FinalBg = codes "final_bg"
attribute_name attribute.FinalAttr = codes "final_attr"

-- all attributes, in the order in which they are written
abbrev pub all_attributes : List Attribute
all_attributes =
    attribute.Underline ∷ attribute.Reverse ∷ attribute.Bold ∷ attribute.Blink ∷ attribute.Dim ∷ attribute.Italic
    ∷ attribute.FinalFg ∷ attribute.FinalBg ∷ attribute.FinalAttr ∷ []

-- whether an attribute is among attributes
abbrev pub has_attribute : Attributes → Attribute → Bool
has_attribute a attribute.Underline = a.underline
has_attribute a attribute.Reverse = a.reverse
has_attribute a attribute.Bold = a.bold
has_attribute a attribute.Blink = a.blink
has_attribute a attribute.Dim = a.dim
has_attribute a attribute.Italic = a.italic
has_attribute a attribute.FinalFg = a.final_fg
has_attribute a attribute.FinalBg = a.final_bg
has_attribute a attribute.FinalAttr = a.final_attr

-- the colour that leaves the choice to what lies below
abbrev pub default_colour : Colour
default_colour = Named named.Default

-- whether a named colour is that one
abbrev pub is_default_name : NamedColour → Bool
is_default_name named.Default = true
is_default_name _ = false

-- whether a colour is that one
abbrev pub is_default : Colour → Bool
is_default (Named name) = is_default_name name
is_default (Rgb red green blue) = false

-- the attributes that are in one or the other
abbrev pub united : Attributes → Attributes → Attributes
united a b = record {
  underline = a.underline || b.underline;
  reverse = a.reverse || b.reverse;
  bold = a.bold || b.bold;
  blink = a.blink || b.blink;
  dim = a.dim || b.dim;
  italic = a.italic || b.italic;
  final_fg = a.final_fg || b.final_fg;
  final_bg = a.final_bg || b.final_bg;
  final_attr = a.final_attr || b.final_attr;
}
