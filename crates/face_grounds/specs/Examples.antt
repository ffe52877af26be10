-- The definitions at given grounds.
use Rattle.std.specs.Prelude.{◌≡◌, ℕ, [], ◌∷◌, true}
use Rattle.kak_faces.specs.declared.colour.NamedColour.TheVariants as named
use Rattle.kak_faces.specs.declared.face.Face.{Face}
use Rattle.kak_faces.specs.Standard.{no_attributes, plain_face, default_face}
use Rattle.face_grounds.specs.declared.ground.Run.{Run}
use Rattle.face_grounds.specs.declared.ground.Over.{Over}
use Rattle.face_grounds.specs.Grounds.{Seen, everywhere, ground_at, over_all}

-- red letters, and red ones that stay so
abbrev pub red_face : Face
red_face = plain_face named.Red named.Default

abbrev pub kept_red_face : Face
kept_red_face = record red_face { attributes = record no_attributes { final_fg = true } }

-- blue letters, and a green ground
abbrev pub blue : Face
blue = plain_face named.Blue named.Default

abbrev pub on_green : Face
on_green = plain_face named.Default named.Green

-- a run that ends before a place, and a face over the places from one to before another
abbrev pub run_until : ℕ → Face → Run
run_until end face = record { end = end; face = face }

abbrev pub over_between : ℕ → ℕ → Face → Over
over_between from to face = record { from = from; to = to; face = face }

-- two red places, no further one, a blue one, and default ones from there on
abbrev pub some_ground : Seen
some_ground = record { runs = run_until 2 red_face ∷ run_until 2 on_green ∷ run_until 3 blue ∷ []; rest = default_face }

-- the table of examples
pub record WorkedExamples : Type 0 where
  pub everywhere_first : ground_at (everywhere red_face) 0 ≡ red_face
  pub everywhere_far : ground_at (everywhere red_face) 1000 ≡ red_face
  -- a run has the places before its end that no run before it has
  pub in_first : ground_at some_ground 1 ≡ red_face
  pub empty_run : ground_at some_ground 2 ≡ blue
  pub behind_all : ground_at some_ground 3 ≡ default_face
  -- a face lies over the places from its first to before its last
  pub before_it : over_all (over_between 1 3 red_face ∷ []) 0 default_face ≡ default_face
  pub its_first : over_all (over_between 1 3 red_face ∷ []) 1 default_face ≡ red_face
  pub its_last : over_all (over_between 1 3 red_face ∷ []) 2 default_face ≡ red_face
  pub behind_it : over_all (over_between 1 3 red_face ∷ []) 3 default_face ≡ default_face
  -- it is merged with what lies below, and not put in its place
  pub both : over_all (over_between 0 9 red_face ∷ over_between 0 9 on_green ∷ []) 4 default_face ≡ plain_face named.Red named.Green
  -- the last lies above all
  pub last_above : over_all (over_between 0 9 red_face ∷ over_between 2 5 blue ∷ []) 2 default_face ≡ blue
  pub first_below : over_all (over_between 2 5 blue ∷ over_between 0 9 red_face ∷ []) 2 default_face ≡ red_face
  -- a final colour below stays
  pub stays : over_all (over_between 0 9 kept_red_face ∷ over_between 0 9 blue ∷ []) 2 default_face ≡ kept_red_face
  -- one that ends where it begins, or before, lies nowhere
  pub empty_one : over_all (over_between 2 2 red_face ∷ []) 2 default_face ≡ default_face
  pub turned_one : over_all (over_between 5 2 red_face ∷ []) 3 default_face ≡ default_face
