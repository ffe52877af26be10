-- Where bases come to, and that they end in every table that is made of the given one.
use Rattle.std.proofs.Common.{◌≡◌, ℕ, zero, suc, ◌+◌, ◌≤◌, List, [], ◌∷◌, length, Bool, true, false, cond, ◌||◌, map, Option, Some, None, Result, Ok, Err, inl, inr, ◌⊎◌, refl, ap, sym, ◌∙◌, subst, arith}
use Rattle.std.specs.Prelude.{find, option_map, unwrap_or}
use Rattle.std.specs.List.{list_any}
use Rattle.std.specs.Str.{bytes_eq}
use Rattle.std.proofs.lemmas.Slice.Eq.{bytes_eq-Decides}
use Rattle.tables.specs.Tables.{put_where}
use Rattle.tables.proofs.TableLemmas.{by_test}
use Rattle.tables.proofs.RowLemmas.{fewer-left}
use Rattle.kak_faces.proofs.FaceLemmas.{merged-default_over}
use Rattle.kak_faces.specs.Faces.{merged}
use Rattle.kak_faces.specs.Standard.{default_face, standard_face}
use Rattle.kak_faces.specs.declared.standard.StandardFace.{StandardFace}
use Rattle.face_texts.specs.declared.text.FaceText.{FaceText}
use Rattle.face_texts.specs.declared.rows.NamedFace.{NamedFace}
use Rattle.face_texts.specs.Tables.{is_named, text_named, text_of_base, chain, chain_on, face_of, shown, seen_named, is_base, is_based_on, comes_back, named_row, face_set_in, face_unset_in, based_on}
use Rattle.face_texts.specs.Texts.{face_on}
use Rattle.face_texts.specs.Given.{standard_row, all_standard, given}
use Rattle.face_texts.specs.Histories.{FaceEdit, Sets, Unsets, unless_refused, faces_made}
use Rattle.face_texts.proofs.NameLemmas.{set-same, set-other, unset-same, unset-other}

-- bases lead from a text to a name
data Reaches (rows : List NamedFace) (name : List ℕ) : FaceText → Type 0 where
  here : (text : FaceText) → is_based_on name text ≡ true → Reaches rows name text
  there : (text below : FaceText) → text_of_base rows text.base ≡ Some below → Reaches rows name below → Reaches rows name text

-- they lead from no row back to its name
abbrev NeverBack : List NamedFace → Type 0
NeverBack rows = (name : List ℕ) (text : FaceText) → text_named rows name ≡ Some text → Reaches rows name text → ⊥

-- they end within so many steps
data Ends (rows : List NamedFace) : ℕ → FaceText → Type 0 where
  stops : (n : ℕ) (text : FaceText) → text_of_base rows text.base ≡ None → Ends rows n text
  goes_on : (n : ℕ) (text below : FaceText) → text_of_base rows text.base ≡ Some below → Ends rows n below → Ends rows (suc n) text

-- from a name's text on
reaches-through : (rows : List NamedFace) (name next : List ℕ) (text below : FaceText) → Reaches rows next text → text_named rows next ≡ Some below → Reaches rows name below → Reaches rows name text
reaches-through rows name next text below r is further = go text r
  where
    at_base : (base : Option (List ℕ)) → is_base next base ≡ true → text_of_base rows base ≡ Some below
    at_base None false_is = absurd (let never : false ≡ true = false_is in cc)
    at_base (Some b) same = ap (text_named rows) ((bytes_eq-Decides b next).0 same) ∙ is

    go : (text : FaceText) → Reaches rows next text → Reaches rows name text
    go _ (here text same) = there text below (at_base text.base same) further
    go _ (there text more e rest) = there text more e (go more rest)

-- what is seen of a base in two tables that differ in one name
base-cases : (old new : List NamedFace) (name : List ℕ) → ((other : List ℕ) → bytes_eq name other ≡ false → text_named new other ≡ text_named old other) → (base : Option (List ℕ)) → (is_base name base ≡ true) ⊎ (text_of_base new base ≡ text_of_base old base)
base-cases old new name same None = inr refl
base-cases old new name same (Some b) =
    by_test (λ v. v ≡ bytes_eq b name → (bytes_eq b name ≡ true) ⊎ (text_named new b ≡ text_named old b)) (bytes_eq b name)
    (λ _ e. inl (sym e))
    (λ _ e. inr (same b (turned b name (sym e))))
    refl
  where
    turned : (x y : List ℕ) → bytes_eq x y ≡ false → bytes_eq y x ≡ false
    turned x y differ =
        by_test (λ v. v ≡ bytes_eq y x → v ≡ false) (bytes_eq y x)
        (λ _ e. absurd (let never : false ≡ true = sym differ ∙ (bytes_eq-Decides x y).1 (sym ((bytes_eq-Decides y x).0 (sym e))) in cc))
        (λ _ _. refl) refl

-- after a name was set to a text, bases lead where they led before, or by way of the name
module _ (old new : List NamedFace) (name : List ℕ) (text : FaceText) (set : text_named new name ≡ Some text) (others : (other : List ℕ) → bytes_eq name other ≡ false → text_named new other ≡ text_named old other) where
  by_name : (base : Option (List ℕ)) (below : FaceText) → is_base name base ≡ true → text_of_base new base ≡ Some below → below ≡ text
  by_name None below false_is e = absurd (let never : false ≡ true = false_is in cc)
  by_name (Some b) below same e =
      let both : Some below ≡ Some text = sym e ∙ ap (text_named new) ((bytes_eq-Decides b name).0 same) ∙ set in cc

  both-ways : (goal : List ℕ) (from : FaceText) → Reaches new goal from → Reaches old goal from ⊎ (Reaches old name from × Reaches new goal text)
  both-ways goal _ (here from same) = inl (here from same)
  both-ways goal _ (there from below e rest) =
      elim (base-cases old new name others from.base) [
        | inl at ↦ inr (here from at, subst (Reaches new goal) (by_name from.base below at e) rest)
        | inr same ↦ elim (both-ways goal below rest) [
          | inl before ↦ inl (there from below (sym same ∙ e) before)
          | inr way ↦ inr (there from below (sym same ∙ e) way.0, way.1)
        ]
      ]

  -- the text itself leads where it led, if it doesn't lead to the name
  as-before : (Reaches old name text → ⊥) → (goal : List ℕ) → Reaches new goal text → Reaches old goal text
  as-before never goal r = elim (both-ways goal text r) [ inl before ↦ before | inr way ↦ absurd (never way.0) ]

  set-never : NeverBack old → (Reaches old name text → ⊥) → NeverBack new
  set-never before never goal from is r =
      by_test (λ v. v ≡ bytes_eq name goal → ⊥) (bytes_eq name goal)
      (λ _ e.
      let same : name ≡ goal = (bytes_eq-Decides name goal).0 (sym e) in
      let its : Some from ≡ Some text = sym is ∙ ap (text_named new) (sym same) ∙ set in
      let own : from ≡ text = cc in
      never (as-before never name (subst (λ n. Reaches new n text) (sym same) (subst (Reaches new goal) own r))))
      (λ _ e.
      let was : text_named old goal ≡ Some from = sym (others goal (sym e)) ∙ is in
      elim (both-ways goal from r) [
        | inl r0 ↦ before goal from was r0
        | inr way ↦ never (reaches-through old name goal text from (as-before never goal way.1) was way.0)
      ])
      refl

-- after a name was unset, bases lead nowhere else
module _ (name : List ℕ) (rows : List NamedFace) where
  unset-base : (base : Option (List ℕ)) (below : FaceText) → text_of_base (face_unset_in name rows) base ≡ Some below → text_of_base rows base ≡ Some below
  unset-base None below e = e
  unset-base (Some b) below e =
      by_test (λ v. v ≡ bytes_eq name b → text_named rows b ≡ Some below) (bytes_eq name b)
      (λ _ same. absurd (let gone : None ≡ Some below = sym (unset-same name rows) ∙ ap (text_named (face_unset_in name rows)) ((bytes_eq-Decides name b).0 (sym same)) ∙ e in cc))
      (λ _ differ. sym (unset-other name b rows (sym differ)) ∙ e) refl

  unset-reaches : (goal : List ℕ) (from : FaceText) → Reaches (face_unset_in name rows) goal from → Reaches rows goal from
  unset-reaches goal _ (here from same) = here from same
  unset-reaches goal _ (there from below e rest) = there from below (unset-base from.base below e) (unset-reaches goal below rest)

  unset-never : NeverBack rows → NeverBack (face_unset_in name rows)
  unset-never before goal from is r = before goal from (unset-base (Some goal) from is) (unset-reaches goal from r)

  -- bases that end without the name end with it, where they don't lead to it
  ends-with : (n : ℕ) (from : FaceText) → (Reaches rows name from → ⊥) → Ends (face_unset_in name rows) n from → Ends rows n from
  ends-with _ _ never (stops n from e) = stops n from (sym (unset-same-base from.base (λ at. never (here from at))) ∙ e)
    where
      unset-same-base : (base : Option (List ℕ)) → (is_base name base ≡ true → ⊥) → text_of_base (face_unset_in name rows) base ≡ text_of_base rows base
      unset-same-base base apart = elim (base-cases rows (face_unset_in name rows) name (λ other differ. unset-other name other rows differ) base) [ inl at ↦ absurd (apart at) | inr same ↦ same ]
  ends-with _ _ never (goes_on n from below e rest) =
      let is = unset-base from.base below e in
      goes_on n from below is (ends-with n below (λ r. never (there from below is r)) rest)

-- what a base is set to is a row that is there
there-is : (rows : List NamedFace) (name : List ℕ) (text : FaceText) → text_named rows name ≡ Some text → list_any (is_named name) rows ≡ true
there-is [] name text e = absurd (let never : None ≡ Some text = e in cc)
there-is (row ∷ rows) name text e =
    by_test (λ v. v ≡ is_named name row → option_map (λ (r : NamedFace). r.text) (cond v (Some row) (find (is_named name) rows)) ≡ Some text → (v || list_any (is_named name) rows) ≡ true) (is_named name row)
    (λ _ _ _. refl)
    (λ _ _ further. there-is rows name text further)
    refl e

-- bases end, where they end from each row that is there in one step less
found-ends : (rows : List NamedFace) (text : FaceText) (n : ℕ) → ((name : List ℕ) (below : FaceText) → text_named rows name ≡ Some below → (m : ℕ) × (n ≡ suc m) × Ends rows m below) → (base : Option (List ℕ)) → text.base ≡ base → (found : Option FaceText) → text_of_base rows base ≡ found → Ends rows n text
found-ends rows text n further None e found is = stops n text (ap (text_of_base rows) e)
found-ends rows text n further (Some name) e None is = stops n text (ap (text_of_base rows) e ∙ is)
found-ends rows text n further (Some name) e (Some below) is =
    let rest = further name below is in
    subst (λ k. Ends rows k text) (sym rest.1) (goes_on rest.0 text below (ap (text_of_base rows) e ∙ is) rest.2)

-- they end within as many steps as there are rows
ends-within : (n : ℕ) (rows : List NamedFace) → length rows ≤ n → NeverBack rows → (text : FaceText) → Ends rows n text
ends-within zero rows few never text =
    found-ends rows text zero (λ name below is. absurd (omega (arith, fewer-left (is_named name) rows (there-is rows name below is)))) text.base refl (text_of_base rows text.base) refl
ends-within (suc n) rows few never text =
    found-ends rows text (suc n)
    (λ name below is.
    let fewer : length (face_unset_in name rows) + 1 ≤ length rows = fewer-left (is_named name) rows (there-is rows name below is) in
    let within : length (face_unset_in name rows) ≤ n = omega arith in
    (n, refl, ends-with name rows n below (never name below is) (ends-within n (face_unset_in name rows) within (unset-never name rows never) below)))
    text.base refl (text_of_base rows text.base) refl

-- where bases end, more steps lead no further
ended-chain : (rows : List NamedFace) (n : ℕ) (text : FaceText) → Ends rows n text → (more : ℕ) → chain (n + more) rows text ≡ chain n rows text
ended-chain rows _ _ (stops n text e) more = stopped (n + more) ∙ sym (stopped n)
  where
    stopped : (m : ℕ) → chain m rows text ≡ text ∷ []
    stopped zero = refl
    stopped (suc m) = ap (λ o. text ∷ chain_on (chain m rows) o) e
ended-chain rows _ _ (goes_on n text below e rest) more =
    let one : suc n + more ≡ suc (n + more) = omega arith in
    ap (λ m. chain m rows text) one
    ∙ ap (λ o. text ∷ chain_on (chain (n + more) rows) o) e
    ∙ ap (λ texts. text ∷ texts) (ended-chain rows n below rest more)
    ∙ sym (ap (λ o. text ∷ chain_on (chain n rows) o) e)

-- a name that isn't among the bases of a chain that ends isn't come to
or-parts : (a b : Bool) → (a || b) ≡ false → (a ≡ false) × (b ≡ false)
or-parts true b e = absurd (let never : true ≡ false = e in cc)
or-parts false b e = (refl, e)

not-reached : (rows : List NamedFace) (name : List ℕ) (n : ℕ) (text : FaceText) → Ends rows n text → list_any (is_based_on name) (chain n rows text) ≡ false → Reaches rows name text → ⊥
not-reached rows name n _ ends none (here text same) =
    let first = first_of n text none in let never : false ≡ true = sym first ∙ same in cc
  where
    first_of : (m : ℕ) (t : FaceText) → list_any (is_based_on name) (chain m rows t) ≡ false → is_based_on name t ≡ false
    first_of zero t e = (or-parts (is_based_on name t) false e).0
    first_of (suc m) t e = (or-parts (is_based_on name t) (list_any (is_based_on name) (chain_on (chain m rows) (text_of_base rows t.base))) e).0
not-reached rows name _ _ (stops n text e) none (there _ below is r) = absurd (let never : None ≡ Some below = sym e ∙ is in cc)
not-reached rows name _ _ (goes_on n text below e rest) none (there _ other is r) =
    let both : Some below ≡ Some other = sym e ∙ is in
    let same : other ≡ below = cc in
    let parts = or-parts (is_based_on name text) (list_any (is_based_on name) (chain_on (chain n rows) (text_of_base rows text.base))) none in
    not-reached rows name n below rest (sym (ap (λ o. list_any (is_based_on name) (chain_on (chain n rows) o)) e) ∙ parts.1) (subst (Reaches rows name) same r)

-- a name may be set only where the text doesn't lead to it
set-free : (name : List ℕ) (text : FaceText) (rows new : List NamedFace) → face_set_in name text rows ≡ Ok new → comes_back rows name text ≡ false
set-free name text rows new done =
    by_test (λ b. cond b (Err name) (Ok (put_where (is_named name) (named_row name text) rows)) ≡ Ok new → b ≡ false) (comes_back rows name text)
    (λ _ same. absurd (let different : Err name ≡ Ok new = same in cc))
    (λ _ _. refl)
    done

-- no given face has a base
plain-rows : (faces : List StandardFace) (name : List ℕ) (text : FaceText) → text_named (map standard_row faces) name ≡ Some text → text.base ≡ None
plain-rows [] name text e = absurd (let never : None ≡ Some text = e in cc)
plain-rows (face ∷ faces) name text e =
    by_test (λ v. option_map (λ (r : NamedFace). r.text) (cond v (Some (standard_row face)) (find (is_named name) (map standard_row faces))) ≡ Some text → text.base ≡ None) (is_named name (standard_row face))
    (λ _ its. let known : Some (face_on (standard_face face) None) ≡ Some text = its in let own : face_on (standard_face face) None ≡ text = cc in ap (λ (t : FaceText). t.base) (sym own))
    (λ _ further. plain-rows faces name text further)
    e

no-base : (rows : List NamedFace) (name : List ℕ) (text : FaceText) → text.base ≡ None → Reaches rows name text → ⊥
no-base rows name _ none (here text same) = let never : false ≡ true = sym (ap (is_base name) none) ∙ same in cc
no-base rows name _ none (there text below is r) = let never : None ≡ Some below = sym (ap (text_of_base rows) none) ∙ is in cc

never-given : NeverBack given
never-given name text is r = no-base given name text (plain-rows all_standard name text is) r

never-set : (name : List ℕ) (text : FaceText) (rows : List NamedFace) → NeverBack rows → (result : Result (List NamedFace) (List ℕ)) → face_set_in name text rows ≡ result → NeverBack (unless_refused rows result)
never-set name text rows before (Err n) e = before
never-set name text rows before (Ok new) e =
    set-never rows new name text (set-same name text rows new e) (λ other differ. set-other name other text rows new e differ) before
    (not-reached rows name (length rows) text (ends-within (length rows) rows (omega arith) before text) (set-free name text rows new e))

never-faces_made : (edits : List FaceEdit) → NeverBack (faces_made edits)
never-faces_made [] = never-given
never-faces_made (Sets name text ∷ edits) = never-set name text (faces_made edits) (never-faces_made edits) (face_set_in name text (faces_made edits)) refl
never-faces_made (Unsets name ∷ edits) = unset-never name (faces_made edits) (never-faces_made edits)

pub chains-end : (edits : List FaceEdit) (text : FaceText) (more : ℕ) → chain (length (faces_made edits) + more) (faces_made edits) text ≡ chain (length (faces_made edits)) (faces_made edits) text
chains-end edits text more = ended-chain (faces_made edits) (length (faces_made edits)) text (ends-within (length (faces_made edits)) (faces_made edits) (omega arith) (never-faces_made edits) text) more

-- a text that says nothing itself is seen as its base
through-default : (rows : List NamedFace) (n : ℕ) (text : FaceText) → Ends rows n text → text.face ≡ default_face → face_of (chain n rows text) ≡ unwrap_or (option_map (λ below. face_of (chain n rows below)) (text_of_base rows text.base)) default_face
through-default rows _ _ (stops n text e) plain =
    ap face_of (stopped n) ∙ ap (merged default_face) plain ∙ sym (ap (λ o. unwrap_or (option_map (λ below. face_of (chain n rows below)) o) default_face) e)
  where
    stopped : (m : ℕ) → chain m rows text ≡ text ∷ []
    stopped zero = refl
    stopped (suc m) = ap (λ o. text ∷ chain_on (chain m rows) o) e
through-default rows _ _ (goes_on n text below e rest) plain =
    let one : n + 1 ≡ suc n = omega arith in
    ap (λ o. merged (face_of (chain_on (chain n rows) o)) text.face) e
    ∙ ap (merged (face_of (chain n rows below))) plain
    ∙ merged-default_over (face_of (chain n rows below))
    ∙ sym (ap (λ m. face_of (chain m rows below)) (sym one) ∙ ap face_of (ended-chain rows n below rest 1))
    ∙ sym (ap (λ o. unwrap_or (option_map (λ x. face_of (chain (suc n) rows x)) o) default_face) e)

pub word-is-face : (edits : List FaceEdit) (name : List ℕ) → shown (faces_made edits) (based_on name) ≡ seen_named (faces_made edits) name
word-is-face edits name =
    through-default (faces_made edits) (length (faces_made edits)) (based_on name) (ends-within (length (faces_made edits)) (faces_made edits) (omega arith) (never-faces_made edits) (based_on name)) refl
