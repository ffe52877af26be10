-- The definitions at given texts and tables.
use Rattle.std.specs.Prelude.{◌≡◌, ℕ, true, List, [], ◌∷◌, Some, None, Ok, Err, codes}
use Rattle.kak_faces.specs.declared.colour.NamedColour.{NamedColour}
use Rattle.kak_faces.specs.declared.colour.NamedColour.TheVariants as named
use Rattle.kak_faces.specs.declared.colour.Colour.TheVariants.{Named as NamedOf, Rgb}
use Rattle.kak_faces.specs.declared.colour.Attributes.{Attributes}
use Rattle.kak_faces.specs.declared.face.Face.{Face}
use Rattle.kak_faces.specs.Standard.{no_attributes, plain_face, default_face}
use Rattle.face_texts.specs.declared.text.FaceText.{FaceText}
use Rattle.face_texts.specs.declared.rows.NamedFace.{NamedFace}
use Rattle.face_texts.specs.Texts.{face_on, face_text_of}
use Rattle.face_texts.specs.Tables.{face_named, seen_named, shown, face_set_in, face_unset_in, named_row, based_on, word_text}
use Rattle.face_texts.specs.Given.{given}

-- a face of two colours, without a base
abbrev pub plain_face_text : NamedColour → NamedColour → FaceText
plain_face_text fg bg = face_on (plain_face fg bg) None

-- red letters, over nothing and over a base
abbrev pub red : FaceText
red = plain_face_text named.Red named.Default

abbrev pub red_on : List ℕ → FaceText
red_on base = face_on (plain_face named.Red named.Default) (Some base)

-- the default face with attributes
abbrev pub with_attributes : Attributes → Face
with_attributes attributes = record default_face { attributes = attributes }

abbrev pub all_final : Attributes
all_final = record no_attributes { final_fg = true; final_bg = true; final_attr = true }

-- green that stays, attributes that stay, and red that stays
abbrev pub kept_green : Face
kept_green = record (plain_face named.Green named.Default) { attributes = record no_attributes { final_fg = true } }

abbrev pub kept_attributes : Face
kept_attributes = with_attributes (record no_attributes { final_attr = true })

abbrev pub kept_red : Face
kept_red = record (plain_face named.Red named.Default) { attributes = record no_attributes { final_fg = true } }

-- a over b over c
abbrev pub three_names : List NamedFace
three_names =
    named_row (codes "a") (face_on kept_red (Some (codes "b"))) ∷ named_row (codes "b") (face_on kept_attributes (Some (codes "c")))
    ∷ named_row (codes "c") (face_on kept_green None) ∷ []

-- the examples of texts
pub record TextExamples : Type 0 where
  pub one : face_text_of (codes "red") ≡ Ok red
  pub ground_alone : face_text_of (codes ",blue") ≡ Ok (plain_face_text named.Default named.Blue)
  pub missing_between : face_text_of (codes "red,,green") ≡ Ok (face_on (record (plain_face named.Red named.Default) { underline = NamedOf named.Green }) None)
  pub nothing : face_text_of [] ≡ Ok (face_on default_face None)
  pub all_three : face_text_of (codes "bright-cyan,default,black") ≡ Ok (face_on (record (plain_face named.BrightCyan named.Default) { underline = NamedOf named.Black }) None)
  -- digits of either case
  pub amounts : face_text_of (codes "rgb:0aF1e9") ≡ Ok (face_on (record default_face { fg = Rgb 10 241 233 }) None)
  pub all_parts : face_text_of (codes "default,red+buif@Base") ≡ Ok (face_on (record (plain_face named.Default named.Red) { attributes = record no_attributes { bold = true; underline = true; italic = true; final_fg = true } }) (Some (codes "Base")))
  pub other_letters : face_text_of (codes "+rBdga") ≡ Ok (face_on (with_attributes (record no_attributes { reverse = true; blink = true; dim = true; final_bg = true; final_attr = true })) None)
  pub all_finals : face_text_of (codes "+F") ≡ Ok (face_on (with_attributes all_final) None)
  pub twice : face_text_of (codes "+bb") ≡ Ok (face_on (with_attributes (record no_attributes { bold = true })) None)
  pub base_alone : face_text_of (codes "@Base") ≡ Ok (based_on (codes "Base"))
  -- all behind the first @ is the base, in UTF-8
  pub marks_in_base : face_text_of (codes "red@a+b@c,d") ≡ Ok (red_on (codes "a+b@c,d"))
  pub wide_base : face_text_of (64 ∷ 233 ∷ []) ≡ Ok (based_on (195 ∷ 169 ∷ []))
  -- what should be there and isn't
  pub behind_comma : face_text_of (codes "red,") ≡ Err 4
  pub behind_two : face_text_of (codes "red,,") ≡ Err 5
  pub comma_and_plus : face_text_of (codes "red,+b") ≡ Err 4
  pub behind_plus : face_text_of (codes "red+") ≡ Err 4
  pub plus_and_base : face_text_of (codes "red+@Base") ≡ Err 4
  pub behind_base : face_text_of (codes "red@") ≡ Err 4
  -- what should not be there
  pub third_comma : face_text_of (codes "red,,,") ≡ Err 5
  pub four_colours : face_text_of (codes "red,blue,green,white") ≡ Err 14
  pub no_colour : face_text_of (codes "red,mauve") ≡ Err 4
  pub capital : face_text_of (codes "Red") ≡ Err 0
  pub bright_default : face_text_of (codes "bright-default") ≡ Err 0
  pub five_digits : face_text_of (codes "rgb:12345") ≡ Err 0
  pub seven_digits : face_text_of (codes "rgb:1234567") ≡ Err 0
  pub no_digit : face_text_of (codes "rgb:12345g") ≡ Err 0
  pub capital_mark : face_text_of (codes "RGB:123456") ≡ Err 0
  pub no_letter : face_text_of (codes "red+bx") ≡ Err 5
  pub comma_among_letters : face_text_of (codes "+b,blue") ≡ Err 2
  pub plus_among_letters : face_text_of (codes "+b+u") ≡ Err 2
  -- the first from the left
  pub colour_first : face_text_of (codes "mauve+x@") ≡ Err 0
  pub letter_first : face_text_of (codes "red+x@") ≡ Err 4
  -- places are counted in characters
  pub wide_colour : face_text_of (233 ∷ 44 ∷ 233 ∷ []) ≡ Err 0
  pub behind_wide : face_text_of (43 ∷ 98 ∷ 233 ∷ []) ≡ Err 2

-- the examples of tables
pub record TableExamples : Type 0 where
  pub given_face : face_named given (codes "Error") ≡ Some (plain_face named.Black named.Red)
  pub no_face : face_named given (codes "A") ≡ None
  pub counts_as_default : seen_named given (codes "A") ≡ default_face
  pub unset_default : seen_named (face_unset_in (codes "Error") given) (codes "Error") ≡ default_face
  -- a base is merged below, and one that isn't set counts as the default face
  pub over_base : shown given (red_on (codes "Error")) ≡ plain_face named.Red named.Red
  pub over_nothing : shown given (red_on (codes "A")) ≡ plain_face named.Red named.Default
  -- a base that is set later is followed
  pub later : face_named (named_row (codes "A") (based_on (codes "B")) ∷ named_row (codes "B") red ∷ []) (codes "A") ≡ Some (plain_face named.Red named.Default)
  -- bases are merged from the last on: `b` over `c` has lost that green stays, so that `a` over both is red
  pub from_the_last : face_named three_names (codes "a") ≡ Some (record (plain_face named.Red named.Default) { attributes = record no_attributes { final_attr = true } })
  -- in place of what the name had, and at the end where it had nothing
  pub set_again : face_set_in (codes "A") red (named_row (codes "A") (based_on (codes "B")) ∷ named_row (codes "C") red ∷ []) ≡ Ok (named_row (codes "A") red ∷ named_row (codes "C") red ∷ [])
  pub set_new : face_set_in (codes "A") (based_on (codes "B")) (named_row (codes "C") red ∷ []) ≡ Ok (named_row (codes "C") red ∷ named_row (codes "A") (based_on (codes "B")) ∷ [])
  -- bases that would come back
  pub itself : face_set_in (codes "A") (based_on (codes "A")) given ≡ Err (codes "A")
  pub two_of_them : face_set_in (codes "B") (based_on (codes "A")) (named_row (codes "A") (based_on (codes "B")) ∷ []) ≡ Err (codes "B")
  pub three_of_them : face_set_in (codes "c") (based_on (codes "a")) three_names ≡ Err (codes "c")
  -- a word that is a set name stands for its face, also where it is a colour
  pub set_word : word_text given (codes "Error") ≡ Ok (based_on (codes "Error"))
  pub colour_word : word_text given (codes "red") ≡ Ok red
  pub colour_name : word_text (named_row (codes "red") (plain_face_text named.Blue named.Default) ∷ []) (codes "red") ≡ Ok (based_on (codes "red"))
  pub bad_word : word_text given (codes "Err") ≡ Err 0

-- all of them
pub record WorkedExamples : Type 0 where
  pub texts : TextExamples
  pub tables : TableExamples
