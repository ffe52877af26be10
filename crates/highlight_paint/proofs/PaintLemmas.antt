-- Grounds over which faces are laid, line by line and highlighter by highlighter.
use Rattle.std.proofs.Common.{◌≡◌, ℕ, zero, suc, ◌+◌, ◌-◌, ◌<◌, ◌≤◌, true, false, List, [], ◌∷◌, ◌++◌, length, map, drop, get_or, set, replicate, length-set, inl, inr, refl, sym, ap, ◌∙◌, arith, subst}
use Rattle.std.specs.List.{range_with_len}
use Rattle.std.proofs.lemmas.Bool.{cases_lt}
use Rattle.std.proofs.lemmas.List.{get_or-set_same, get_or-set_other, get_or-replicate, length-replicate, drop_all, get_or-map, length-map}
use Rattle.std.proofs.lemmas.Grind.{flat_map-append}
use Rattle.text_model.specs.Texts.{nth_line}
use Rattle.scope_options.specs.declared.scope.Scope.{Scope}
use Rattle.face_grounds.specs.declared.ground.Over.{Over}
use Rattle.face_grounds.specs.Grounds.{Seen, everywhere, ground_at, over_all}
use Rattle.face_grounds.proofs.LayLemmas.{append}
use Rattle.face_texts.specs.declared.rows.NamedFace.{NamedFace}
use Rattle.face_texts.specs.Palettes.{palette_of}
use Rattle.regex_ports.specs.declared.pattern.GroupSpan.{GroupSpan}
use Rattle.highlight_paint.specs.Painters.{Paints, Highlighter, is_of_scope, painting_at}
use Rattle.highlight_paint.specs.Overs.{line_bytes, overs_of, overs_on}
use Rattle.highlight_paint.specs.Texts.{bytes_between}
use Rattle.highlight_paint.specs.Painting.{ArePainted, IsLaidAt, AreLaid, AreLaidUpto}
use Rattle.highlight_paint.proofs.RowLemmas.{painting-not, painting-more}

-- one of some grounds was exchanged
pub laid-at : (k : ℕ) (overs : List Over) (old : List Seen) (d now : Seen) → k < length old → ((i : ℕ) → ground_at now i ≡ over_all overs i (ground_at (get_or old k d) i)) → ((e : Seen) → get_or old k d ≡ get_or old k e) → IsLaidAt k overs old (set old k now)
laid-at k overs old d now inside laid same = record {
  same = length-set old k now;
  here = λ i e. ap (λ g. ground_at g i) (get_or-set_same old k now e inside) ∙ laid i ∙ ap (λ g. over_all overs i (ground_at g i)) (same e);
  others = λ j e differs. get_or-set_other old k j now e differs;
}

-- line by line
module _ (f : ℕ → List ℕ → List Over) (text : List ℕ) (top : ℕ) (old : List Seen) where
  pub upto-none : AreLaidUpto 0 f text top old old
  upto-none = record { same = refl; each = λ k i d lt. absurd (omega arith); others = λ k d le. refl }

  pub upto-more : (k : ℕ) (now new : List Seen) → AreLaidUpto k f text top old now → IsLaidAt k (f (top + k) (nth_line text (top + k))) now new → AreLaidUpto (k + 1) f text top old new
  upto-more k now new u a = record {
    same = a.same ∙ u.same;
    each = λ j i d lt. elim (cases_lt j k) [
      | inl less ↦ ap (λ g. ground_at g i) (a.others j d (λ e. omega (arith, e, less))) ∙ u.each j i d less
      | inr ge ↦
          let e : k ≡ j = omega (arith, lt, ge) in
          subst (λ x. ground_at (get_or new x d) i ≡ over_all (f (top + x) (nth_line text (top + x))) i (ground_at (get_or old x d) i)) e
          (a.here i d ∙ ap (λ g. over_all (f (top + k) (nth_line text (top + k))) i (ground_at g i)) (u.others k d (omega arith)))
    ];
    others = λ j d le. a.others j d (λ e. omega (arith, e, le)) ∙ u.others j d (omega (arith, le));
  }

  pub upto-all : (n : ℕ) (new : List Seen) → AreLaidUpto n f text top old new → length old ≤ n → AreLaid f text top old new
  upto-all n new u le = record { same = u.same; each = λ k i d lt. u.each k i d (omega (arith, lt, le)) }

  -- nothing lies over a line
  pub laid-nothing : ((n : ℕ) (line : List ℕ) → f n line ≡ []) → AreLaid f text top old old
  laid-nothing none = record { same = refl; each = λ k i d lt. ap (λ os. over_all os i (ground_at (get_or old k d) i)) (sym (none (top + k) (nth_line text (top + k)))) }

  -- what lies over a line is the same
  pub laid-same : (g : ℕ → List ℕ → List Over) (new : List Seen) → ((n : ℕ) (line : List ℕ) → g n line ≡ f n line) → AreLaid f text top old new → AreLaid g text top old new
  laid-same g new same a = record { same = a.same; each = λ k i d lt. a.each k i d lt ∙ ap (λ os. over_all os i (ground_at (get_or old k d) i)) (sym (same (top + k) (nth_line text (top + k)))) }

  -- first one, then another
  pub laid-then : (g h : ℕ → List ℕ → List Over) (mid new : List Seen) → ((n : ℕ) (line : List ℕ) → h n line ≡ f n line ++ g n line) → AreLaid f text top old mid → AreLaid g text top mid new → AreLaid h text top old new
  laid-then g h mid new both a b = record {
    same = b.same ∙ a.same;
    each = λ k i d lt.
        b.each k i d (omega (arith, a.same, lt))
        ∙ ap (over_all (g (top + k) (nth_line text (top + k))) i) (a.each k i d lt)
        ∙ sym (append (f (top + k) (nth_line text (top + k))) (g (top + k) (nth_line text (top + k))) i (ground_at (get_or old k d) i))
        ∙ ap (λ os. over_all os i (ground_at (get_or old k d) i)) (sym (both (top + k) (nth_line text (top + k))));
  }

-- highlighter by highlighter: what is laid over the grounds now by those that are left is laid over the old ones by all
abbrev pub LeavesRest : List NamedFace → Scope → List Highlighter → ℕ → List ℕ → ℕ → List Seen → List Seen → Type 0
LeavesRest faces scope rows i text top old now =
    (new : List Seen) → AreLaid (overs_on faces (painting_at scope (drop i rows))) text top now new → AreLaid (overs_on faces (painting_at scope rows)) text top old new

module _ (faces : List NamedFace) (scope : Scope) (rows : List Highlighter) (i : ℕ) (text : List ℕ) (top : ℕ) (old now : List Seen) where
  pub rest-not : (row : Highlighter) → i < length rows → row ≡ get_or rows i row → is_of_scope scope row ≡ false → LeavesRest faces scope rows i text top old now → LeavesRest faces scope rows (i + 1) text top old now
  rest-not row inside at fails rest =
      λ new a. rest new (subst (λ ps. AreLaid (overs_on faces ps) text top now new) (sym (painting-not scope rows i row inside at fails)) a)

  pub rest-more : (row : Highlighter) (mid : List Seen) → i < length rows → row ≡ get_or rows i row → is_of_scope scope row ≡ true → LeavesRest faces scope rows i text top old now →
      AreLaid (λ n line. overs_of faces n line row.paints) text top now mid → LeavesRest faces scope rows (i + 1) text top old mid
  rest-more row mid inside at holds rest one =
      λ new a. rest new (subst (λ ps. AreLaid (overs_on faces ps) text top now new) (sym (painting-more scope rows i row inside at holds))
      (laid-then (λ n line. overs_of faces n line row.paints) text top now (overs_on faces (painting_at scope (drop (i + 1) rows))) (overs_on faces (row.paints ∷ painting_at scope (drop (i + 1) rows))) mid new (λ n line. refl) one a))

  pub rest-none : length rows ≤ i → LeavesRest faces scope rows i text top old now → AreLaid (overs_on faces (painting_at scope rows)) text top old now
  rest-none over rest = rest now (laid-nothing (overs_on faces (painting_at scope (drop i rows))) text top now (λ n line. ap (λ rs. overs_on faces (painting_at scope rs) n line) (drop_all i rows over)))

-- all of them over bare grounds
pub painted-all : (faces : List NamedFace) (p q r : List Paints) (text : List ℕ) (top below : ℕ) (bare a b c : List Seen) → bare ≡ replicate (below - top) (everywhere (palette_of faces).default) →
    AreLaid (overs_on faces p) text top bare a → AreLaid (overs_on faces q) text top a b → AreLaid (overs_on faces r) text top b c → ArePainted faces (p ++ q ++ r) text top below c
painted-all faces p q r text top below bare a b c is x y z =
    let face = (palette_of faces).default in
    let two : AreLaid (overs_on faces (p ++ q)) text top bare b = laid-then (overs_on faces p) text top bare (overs_on faces q) (overs_on faces (p ++ q)) a b (λ n line. flat_map-append (overs_of faces n line) p q) x y in
    let all : AreLaid (overs_on faces (p ++ q ++ r)) text top bare c = laid-then (overs_on faces (p ++ q)) text top bare (overs_on faces r) (overs_on faces (p ++ q ++ r)) b c (λ n line. flat_map-append (overs_of faces n line) (p ++ q) r) two z in
    let long : length bare ≡ below - top = ap length is ∙ length-replicate (below - top) (everywhere (palette_of faces).default) in
    record {
      count = all.same ∙ long;
      faces_are = λ k i d lt.
          all.each k i d (omega (arith, lt, long))
          ∙ ap (λ g. over_all (overs_on faces (p ++ q ++ r) (top + k) (nth_line text (top + k))) i (ground_at g i)) (ap (λ gs. get_or gs k d) is ∙ get_or-replicate (below - top) k (everywhere (palette_of faces).default) d lt);
    }

-- what was found in the k-th of some lines
range-at : (a n k d : ℕ) → k < n → get_or (range_with_len a n) k d ≡ a + k
range-at a zero k d h = absurd (omega arith)
range-at a (suc n) zero d h = omega arith
range-at a (suc n) (suc k) d h = range-at (a + 1) n k d (omega (arith, h)) ∙ omega arith

range-long : (a n : ℕ) → length (range_with_len a n) ≡ n
range-long a zero = refl
range-long a (suc n) = ap suc (range-long (a + 1) n)

pub found-long : (find_in : List ℕ → List GroupSpan) (text : List ℕ) (top below : ℕ) → length (map find_in (bytes_between text top below)) ≡ below - top
found-long find_in text top below =
    length-map (bytes_between text top below) find_in ∙ length-map (range_with_len top (below - top)) (λ n. line_bytes (nth_line text n)) ∙ range-long top (below - top)

pub found-at : (find_in : List ℕ → List GroupSpan) (text : List ℕ) (top below k : ℕ) (d : List GroupSpan) → k < below - top → get_or (map find_in (bytes_between text top below)) k d ≡ find_in (line_bytes (nth_line text (top + k)))
found-at find_in text top below k d h =
    get_or-map find_in (bytes_between text top below) k [] d (omega (arith, h, length-map (range_with_len top (below - top)) (λ n. line_bytes (nth_line text n)), range-long top (below - top)))
    ∙ ap find_in (get_or-map (λ n. line_bytes (nth_line text n)) (range_with_len top (below - top)) k 0 [] (omega (arith, h, range-long top (below - top))))
    ∙ ap (λ n. find_in (line_bytes (nth_line text n))) (range-at top (below - top) k 0 h)

-- one line on
pub bytes-more : (text : List ℕ) (next below : ℕ) → next < below → bytes_between text next below ≡ line_bytes (nth_line text next) ∷ bytes_between text (next + 1) below
bytes-more text next below h =
    let more : below - next ≡ suc (below - (next + 1)) = omega (arith, h) in
    ap (λ k. map (λ n. line_bytes (nth_line text n)) (range_with_len next k)) more

pub bytes-none : (text : List ℕ) (next below : ℕ) → below ≤ next → bytes_between text next below ≡ []
bytes-none text next below h =
    let none : below - next ≡ 0 = omega (arith, h) in
    ap (λ k. map (λ n. line_bytes (nth_line text n)) (range_with_len next k)) none
