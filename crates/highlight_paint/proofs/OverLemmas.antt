-- Faces that are gathered one after another.
use Rattle.std.proofs.Common.{◌≡◌, ℕ, ◌+◌, ◌<◌, ◌≤◌, ◌==◌, Bool, true, false, cond, List, [], ◌∷◌, ◌++◌, length, map, drop, get_or, refl, sym, ap, ap₂, ◌∙◌, append_assoc, append-nil}
use Rattle.std.specs.Prelude.{filter}
use Rattle.std.proofs.lemmas.List.{drop_more, drop_all}
use Rattle.kak_faces.specs.declared.face.Face.{Face}
use Rattle.face_grounds.specs.declared.ground.Over.{Over}
use Rattle.regex_ports.specs.declared.pattern.GroupSpan.{GroupSpan}
use Rattle.regex_ports.specs.Matching.{chars_before}
use Rattle.highlight_paint.specs.declared.matches.SeenGroup.{SeenGroup}
use Rattle.highlight_paint.specs.Overs.{laid, is_whitespace, whitespace_overs, span_over, seen_overs}

-- the places of whitespace, one character on
white-drop : (face : Face) (cs : List ℕ) (i c : ℕ) (b : Bool) → i < length cs → c ≡ get_or cs i 0 → b ≡ is_whitespace c →
    whitespace_overs face i (drop i cs) ≡ cond b (laid i (i + 1) face ∷ whitespace_overs face (i + 1) (drop (i + 1) cs)) (whitespace_overs face (i + 1) (drop (i + 1) cs))
white-drop face cs i c b inside at is =
    ap (whitespace_overs face i) (drop_more cs i 0 inside ∙ ap (λ x. x ∷ drop (i + 1) cs) (sym at))
    ∙ ap (λ t. cond t (laid i (i + 1) face ∷ whitespace_overs face (i + 1) (drop (i + 1) cs)) (whitespace_overs face (i + 1) (drop (i + 1) cs))) (sym is)

pub white-not : (face : Face) (cs : List ℕ) (i c : ℕ) → i < length cs → c ≡ get_or cs i 0 → is_whitespace c ≡ false →
    (done : List Over) → done ++ whitespace_overs face (i + 1) (drop (i + 1) cs) ≡ done ++ whitespace_overs face i (drop i cs)
white-not face cs i c inside at fails done = ap (λ os. done ++ os) (sym (white-drop face cs i c false inside at (sym fails)))

pub white-more : (face : Face) (cs : List ℕ) (i c : ℕ) → i < length cs → c ≡ get_or cs i 0 → is_whitespace c ≡ true →
    (done now : List Over) → now ≡ done ++ laid i (i + 1) face ∷ [] → now ++ whitespace_overs face (i + 1) (drop (i + 1) cs) ≡ done ++ whitespace_overs face i (drop i cs)
white-more face cs i c inside at holds done now pushed =
    let rest : List Over = whitespace_overs face (i + 1) (drop (i + 1) cs) in
    ap (λ os. os ++ rest) pushed ∙ append_assoc done (laid i (i + 1) face ∷ []) rest
    ∙ ap (λ os. done ++ os) (sym (white-drop face cs i c true inside at (sym holds)))

pub white-all : (face : Face) (cs : List ℕ) (i : ℕ) → length cs ≤ i → (done : List Over) → done ++ whitespace_overs face i (drop i cs) ≡ done
white-all face cs i over done = ap (λ xs. done ++ whitespace_overs face i xs) (drop_all i cs over) ∙ append-nil done

-- the characters of a group, one range on
map-cond : {A B : Type 0} (f : A → B) (b : Bool) (x : A) (xs : List A) → map f (cond b (x ∷ xs) xs) ≡ cond b (f x ∷ map f xs) (map f xs)
map-cond f true x xs = refl
map-cond f false x xs = refl

seen-drop : (line : List ℕ) (found : List GroupSpan) (g : SeenGroup) (i : ℕ) (s : GroupSpan) (b : Bool) → i < length found → s ≡ get_or found i s → b ≡ (s.group == g.group) →
    seen_overs line (drop i found) g ≡ cond b (span_over line g.face s ∷ seen_overs line (drop (i + 1) found) g) (seen_overs line (drop (i + 1) found) g)
seen-drop line found g i s b inside at is =
    let rest : List GroupSpan = filter (λ x. x.group == g.group) (drop (i + 1) found) in
    ap (λ xs. seen_overs line xs g) (drop_more found i s inside ∙ ap (λ x. x ∷ drop (i + 1) found) (sym at))
    ∙ ap (λ t. map (span_over line g.face) (cond t (s ∷ rest) rest)) (sym is)
    ∙ map-cond (span_over line g.face) b s rest

pub seen-not : (line : List ℕ) (found : List GroupSpan) (g : SeenGroup) (i : ℕ) (s : GroupSpan) → i < length found → s ≡ get_or found i s → (s.group == g.group) ≡ false →
    (done : List Over) → done ++ seen_overs line (drop (i + 1) found) g ≡ done ++ seen_overs line (drop i found) g
seen-not line found g i s inside at fails done = ap (λ os. done ++ os) (sym (seen-drop line found g i s false inside at (sym fails)))

pub seen-more : (line : List ℕ) (found : List GroupSpan) (g : SeenGroup) (i : ℕ) (s : GroupSpan) (from to : ℕ) → i < length found → s ≡ get_or found i s → (s.group == g.group) ≡ true →
    from ≡ chars_before line s.span.start → to ≡ chars_before line s.span.end → (done now : List Over) → now ≡ done ++ laid from to g.face ∷ [] →
    now ++ seen_overs line (drop (i + 1) found) g ≡ done ++ seen_overs line (drop i found) g
seen-more line found g i s from to inside at holds first last done now pushed =
    let rest : List Over = seen_overs line (drop (i + 1) found) g in
    ap (λ os. os ++ rest) (pushed ∙ ap₂ (λ a b. done ++ laid a b g.face ∷ []) first last)
    ∙ append_assoc done (span_over line g.face s ∷ []) rest
    ∙ ap (λ os. done ++ os) (sym (seen-drop line found g i s true inside at (sym holds)))

pub seen-all : (line : List ℕ) (found : List GroupSpan) (g : SeenGroup) (i : ℕ) → length found ≤ i → (done : List Over) → done ++ seen_overs line (drop i found) g ≡ done
seen-all line found g i over done = ap (λ xs. done ++ seen_overs line xs g) (drop_all i found over) ∙ append-nil done
