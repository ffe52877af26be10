-- Texts along bases, one by one.
use Rattle.std.proofs.Common.{◌≡◌, ℕ, zero, suc, List, [], ◌∷◌, Bool, true, false, ◌||◌, Option, Some, None, refl, ap, sym, ◌∙◌}
use Rattle.std.specs.List.{list_any}
use Rattle.kak_faces.specs.declared.face.Face.{Face}
use Rattle.kak_faces.specs.Standard.{default_face}
use Rattle.face_texts.specs.declared.text.FaceText.{FaceText}
use Rattle.face_texts.specs.declared.rows.NamedFace.{NamedFace}
use Rattle.face_texts.specs.declared.cover.Cover.{Cover}
use Rattle.face_texts.specs.Tables.{text_of_base, chain, chain_on, face_of, is_based_on}
use Rattle.face_texts.specs.Covers.{cover_on, face_through}
use Rattle.face_texts.proofs.CoverLemmas.{cover-on}

-- the texts from one on, by what its base is set to
chain-step : (n k : ℕ) (rows : List NamedFace) (text : FaceText) (below : Option FaceText) → n ≡ suc k → text_of_base rows text.base ≡ below → chain n rows text ≡ text ∷ chain_on (chain k rows) below
chain-step n k rows text below one is = ap (λ m. chain m rows text) one ∙ ap (λ b. text ∷ chain_on (chain k rows) b) is

chain-end : (n : ℕ) (rows : List NamedFace) (text : FaceText) → n ≡ 0 → chain n rows text ≡ text ∷ []
chain-end n rows text none = ap (λ m. chain m rows text) none

or-last : (b : Bool) → (b || false) ≡ b
or-last true = refl
or-last false = refl

-- whether a name is come to: here, further on, or no more
pub back-here : (name : List ℕ) (n : ℕ) (rows : List NamedFace) (text : FaceText) (all : Bool) → is_based_on name text ≡ true → list_any (is_based_on name) (chain n rows text) ≡ all → true ≡ all
back-here name zero rows text all here so_far = sym (ap (λ b. b || false) here) ∙ so_far
back-here name (suc n) rows text all here so_far = sym (ap (λ b. b || list_any (is_based_on name) (chain_on (chain n rows) (text_of_base rows text.base))) here) ∙ so_far

pub back-on : (name : List ℕ) (n k : ℕ) (rows : List NamedFace) (text below : FaceText) (all : Bool) → n ≡ suc k → is_based_on name text ≡ false → text_of_base rows text.base ≡ Some below → list_any (is_based_on name) (chain n rows text) ≡ all → list_any (is_based_on name) (chain k rows below) ≡ all
back-on name n k rows text below all one here is so_far =
    sym (ap (list_any (is_based_on name)) (chain-step n k rows text (Some below) one is) ∙ ap (λ b. b || list_any (is_based_on name) (chain k rows below)) here) ∙ so_far

pub back-none : (name : List ℕ) (n k : ℕ) (rows : List NamedFace) (text : FaceText) (all : Bool) → n ≡ suc k → is_based_on name text ≡ false → text_of_base rows text.base ≡ None → list_any (is_based_on name) (chain n rows text) ≡ all → false ≡ all
back-none name n k rows text all one here is so_far =
    sym (ap (list_any (is_based_on name)) (chain-step n k rows text None one is) ∙ ap (λ b. b || false) here) ∙ so_far

pub back-last : (name : List ℕ) (n : ℕ) (rows : List NamedFace) (text : FaceText) (all : Bool) → n ≡ 0 → list_any (is_based_on name) (chain n rows text) ≡ all → is_based_on name text ≡ all
back-last name n rows text all none so_far =
    sym (ap (list_any (is_based_on name)) (chain-end n rows text none) ∙ or-last (is_based_on name text)) ∙ so_far

-- what is seen, with the texts so far in a cover: further on, no more, or at the last
pub seen-on : (cover next : Cover) (n k : ℕ) (rows : List NamedFace) (text below : FaceText) (all : Face) → n ≡ suc k → next ≡ cover_on cover text.face → text_of_base rows text.base ≡ Some below → face_through cover (face_of (chain n rows text)) ≡ all → face_through next (face_of (chain k rows below)) ≡ all
seen-on cover next n k rows text below all one lower is so_far =
    ap (λ c. face_through c (face_of (chain k rows below))) lower
    ∙ cover-on cover text.face (face_of (chain k rows below))
    ∙ sym (ap (λ texts. face_through cover (face_of texts)) (chain-step n k rows text (Some below) one is)) ∙ so_far

pub seen-none : (cover next : Cover) (n k : ℕ) (rows : List NamedFace) (text : FaceText) (all : Face) → n ≡ suc k → next ≡ cover_on cover text.face → text_of_base rows text.base ≡ None → face_through cover (face_of (chain n rows text)) ≡ all → face_through next default_face ≡ all
seen-none cover next n k rows text all one lower is so_far =
    ap (λ c. face_through c default_face) lower
    ∙ cover-on cover text.face default_face
    ∙ sym (ap (λ texts. face_through cover (face_of texts)) (chain-step n k rows text None one is)) ∙ so_far

pub seen-last : (cover next : Cover) (n : ℕ) (rows : List NamedFace) (text : FaceText) (all : Face) → n ≡ 0 → next ≡ cover_on cover text.face → face_through cover (face_of (chain n rows text)) ≡ all → face_through next default_face ≡ all
seen-last cover next n rows text all none lower so_far =
    ap (λ c. face_through c default_face) lower
    ∙ cover-on cover text.face default_face
    ∙ sym (ap (λ texts. face_through cover (face_of texts)) (chain-end n rows text none)) ∙ so_far
