-- Highlighters that are held, and what they paint.
use Rattle.std.proofs.Common.{◌≡◌, ℕ, ◌+◌, ◌<◌, eqb, ◌&&◌, ◌||◌, not, Bool, true, false, cond, List, [], ◌∷◌, length, map, drop, get_or, refl, sym, ap, ◌∙◌}
use Rattle.std.specs.Prelude.{filter}
use Rattle.std.specs.List.{list_any}
use Rattle.std.specs.Str.{bytes_eq}
use Rattle.std.proofs.lemmas.List.{drop_more}
use Rattle.std.proofs.lemmas.Bool.{eq-eqb, eqb-true, and_from, and_parts, false≢true}
use Rattle.std.proofs.lemmas.Slice.Eq.{bytes_eq-Decides}
use Rattle.tables.specs.Tables.{put_where}
use Rattle.tables.proofs.TableLemmas.{by_test}
use Rattle.scope_options.specs.declared.scope.Scope.{Scope}
use Rattle.scope_options.specs.declared.scope.Scope.TheVariants.{Global, Buffer, Window}
use Rattle.scope_options.specs.Scopes.{is_same_scope}
use Rattle.highlight_paint.specs.Painters.{Paints, Highlighter, highlighter, is_of_scope, painting_at}
use Rattle.highlight_paint.specs.Paths.{is_below}
use Rattle.highlight_paint.specs.Highlighters.{is_highlighter, is_held, is_below_highlighter, with_highlighter, without_highlighter}

scope-same : (s : Scope) → is_same_scope s s ≡ true
scope-same Global = refl
scope-same (Buffer m) = eq-eqb m m refl
scope-same (Window k m) = and_from (eqb k k) (eqb m m) (eq-eqb k k refl) (eq-eqb m m refl)

scope-true : (a b : Scope) → is_same_scope a b ≡ true → a ≡ b
scope-true Global Global h = refl
scope-true Global (Buffer n) h = absurd (false≢true h)
scope-true Global (Window l n) h = absurd (false≢true h)
scope-true (Buffer m) Global h = absurd (false≢true h)
scope-true (Buffer m) (Buffer n) h = ap Buffer (eqb-true m n h)
scope-true (Buffer m) (Window l n) h = absurd (false≢true h)
scope-true (Window k m) Global h = absurd (false≢true h)
scope-true (Window k m) (Buffer n) h = absurd (false≢true h)
scope-true (Window k m) (Window l n) h =
    let parts = and_parts (eqb k l) (eqb m n) h in
    ap (λ x. Window x m) (eqb-true k l parts.0) ∙ ap (λ x. Window l x) (eqb-true m n parts.1)

-- a path isn't below itself
not-below : (path : List ℕ) → is_below path path ≡ false
not-below [] = refl
not-below (c ∷ cs) = ap (λ b. b && is_below cs cs) (eq-eqb c c refl) ∙ not-below cs

own-row : (scope : Scope) (path : List ℕ) (paints : Paints) → is_highlighter scope path (highlighter scope path paints) ≡ true
own-row scope path paints = and_from (is_same_scope scope scope) (bytes_eq path path) (scope-same scope) ((bytes_eq-Decides path path).1 refl)

-- a highlighter of a path isn't below it
kept-row : (scope : Scope) (path : List ℕ) (row : Highlighter) → is_highlighter scope path row ≡ true → is_below_highlighter scope path row ≡ false
kept-row scope path row h =
    let parts = and_parts (is_same_scope row.scope scope) (bytes_eq row.path path) h in
    let same : row.path ≡ path = (bytes_eq-Decides row.path path).0 parts.1 in
    ap (λ b. b && is_below path row.path) parts.0 ∙ ap (is_below path) same ∙ not-below path

-- a row that passes one test passes it among those that don't pass another, where these are apart
any-kept : (p q : Highlighter → Bool) (rows : List Highlighter) → ((r : Highlighter) → p r ≡ true → q r ≡ false) → list_any p (filter (λ r. not (q r)) rows) ≡ list_any p rows
any-kept p q [] apart = refl
any-kept p q (r ∷ rs) apart =
    by_test (λ b. b ≡ q r → list_any p (cond (not b) (r ∷ filter (λ x. not (q x)) rs) (filter (λ x. not (q x)) rs)) ≡ (p r || list_any p rs)) (q r)
    (λ _ e. any-kept p q rs apart ∙ by_test (λ b. b ≡ p r → list_any p rs ≡ (b || list_any p rs)) (p r) (λ _ f. absurd (false≢true (sym (apart r (sym f)) ∙ sym e))) (λ _ _. refl) refl)
    (λ _ _. ap (λ b. p r || b) (any-kept p q rs apart))
    refl

any-put : (p : Highlighter → Bool) (row : Highlighter) (rows : List Highlighter) → p row ≡ true → list_any p (put_where p row rows) ≡ true
any-put p row [] h = ap (λ b. b || false) h
any-put p row (r ∷ rs) h =
    by_test (λ b. b ≡ p r → list_any p (cond b (row ∷ rs) (r ∷ put_where p row rs)) ≡ true) (p r)
    (λ _ _. ap (λ b. b || list_any p rs) h)
    (λ _ e. ap (λ b. b || list_any p (put_where p row rs)) (sym e) ∙ any-put p row rs h)
    refl

any-none : (p : Highlighter → Bool) (rows : List Highlighter) → list_any p (filter (λ r. not (p r)) rows) ≡ false
any-none p [] = refl
any-none p (r ∷ rs) =
    by_test (λ b. b ≡ p r → list_any p (cond (not b) (r ∷ filter (λ x. not (p x)) rs) (filter (λ x. not (p x)) rs)) ≡ false) (p r)
    (λ _ _. any-none p rs)
    (λ _ e. ap (λ b. b || list_any p (filter (λ x. not (p x)) rs)) (sym e) ∙ any-none p rs)
    refl

pub path-added : (scope : Scope) (path : List ℕ) (paints : Paints) (rows : List Highlighter) → is_held scope path (with_highlighter scope path paints rows) ≡ true
path-added scope path paints rows =
    any-kept (is_highlighter scope path) (is_below_highlighter scope path) (put_where (is_highlighter scope path) (highlighter scope path paints) rows) (kept-row scope path)
    ∙ any-put (is_highlighter scope path) (highlighter scope path paints) rows (own-row scope path paints)

pub path-removed : (scope : Scope) (path : List ℕ) (rows : List Highlighter) → is_held scope path (without_highlighter scope path rows) ≡ false
path-removed scope path rows =
    any-kept (is_highlighter scope path) (is_below_highlighter scope path) (filter (λ r. not (is_highlighter scope path r)) rows) (kept-row scope path)
    ∙ any-none (is_highlighter scope path) rows

-- rows of one test are kept where those of another go that is apart
filter-apart : (p q : Highlighter → Bool) (rows : List Highlighter) → ((r : Highlighter) → q r ≡ true → p r ≡ false) → filter p (filter (λ r. not (q r)) rows) ≡ filter p rows
filter-apart p q [] apart = refl
filter-apart p q (r ∷ rs) apart =
    by_test (λ b. b ≡ q r → filter p (cond (not b) (r ∷ filter (λ x. not (q x)) rs) (filter (λ x. not (q x)) rs)) ≡ cond (p r) (r ∷ filter p rs) (filter p rs)) (q r)
    (λ _ e. filter-apart p q rs apart ∙ ap (λ b. cond b (r ∷ filter p rs) (filter p rs)) (sym (apart r (sym e))))
    (λ _ _. ap (λ rest. cond (p r) (r ∷ rest) rest) (filter-apart p q rs apart))
    refl

filter-put : (p q : Highlighter → Bool) (row : Highlighter) (rows : List Highlighter) → p row ≡ false → ((r : Highlighter) → q r ≡ true → p r ≡ false) → filter p (put_where q row rows) ≡ filter p rows
filter-put p q row [] own apart = ap (λ b. cond b (row ∷ []) []) own
filter-put p q row (r ∷ rs) own apart =
    by_test (λ b. b ≡ q r → filter p (cond b (row ∷ rs) (r ∷ put_where q row rs)) ≡ cond (p r) (r ∷ filter p rs) (filter p rs)) (q r)
    (λ _ e. ap (λ b. cond b (row ∷ filter p rs) (filter p rs)) own ∙ ap (λ b. cond b (r ∷ filter p rs) (filter p rs)) (sym (apart r (sym e))))
    (λ _ _. ap (λ rest. cond (p r) (r ∷ rest) rest) (filter-put p q row rs own apart))
    refl

-- a row of a scope is of no other
other-scope : (scope other : Scope) (row : Highlighter) (b : Bool) → is_same_scope scope other ≡ false → (is_same_scope row.scope scope && b) ≡ true → is_of_scope other row ≡ false
other-scope scope other row b apart h =
    let parts = and_parts (is_same_scope row.scope scope) b h in
    ap (λ s. is_same_scope s other) (scope-true row.scope scope parts.0) ∙ apart

pub added-elsewhere : (scope other : Scope) (path : List ℕ) (paints : Paints) (rows : List Highlighter) → is_same_scope scope other ≡ false → painting_at other (with_highlighter scope path paints rows) ≡ painting_at other rows
added-elsewhere scope other path paints rows apart =
    ap (map (λ (r : Highlighter). r.paints))
    (filter-apart (is_of_scope other) (is_below_highlighter scope path) (put_where (is_highlighter scope path) (highlighter scope path paints) rows) (λ r h. other-scope scope other r (is_below path r.path) apart h)
    ∙ filter-put (is_of_scope other) (is_highlighter scope path) (highlighter scope path paints) rows apart (λ r h. other-scope scope other r (bytes_eq r.path path) apart h))

pub removed-elsewhere : (scope other : Scope) (path : List ℕ) (rows : List Highlighter) → is_same_scope scope other ≡ false → painting_at other (without_highlighter scope path rows) ≡ painting_at other rows
removed-elsewhere scope other path rows apart =
    ap (map (λ (r : Highlighter). r.paints))
    (filter-apart (is_of_scope other) (is_below_highlighter scope path) (filter (λ r. not (is_highlighter scope path r)) rows) (λ r h. other-scope scope other r (is_below path r.path) apart h)
    ∙ filter-apart (is_of_scope other) (is_highlighter scope path) rows (λ r h. other-scope scope other r (bytes_eq r.path path) apart h))

-- what the rows of a scope paint, one row on
map-cond : {A B : Type 0} (f : A → B) (b : Bool) (x : A) (xs : List A) → map f (cond b (x ∷ xs) xs) ≡ cond b (f x ∷ map f xs) (map f xs)
map-cond f true x xs = refl
map-cond f false x xs = refl

painting-drop : (scope : Scope) (rows : List Highlighter) (i : ℕ) (row : Highlighter) (b : Bool) → i < length rows → row ≡ get_or rows i row → b ≡ is_of_scope scope row →
    painting_at scope (drop i rows) ≡ cond b (row.paints ∷ painting_at scope (drop (i + 1) rows)) (painting_at scope (drop (i + 1) rows))
painting-drop scope rows i row b inside at is =
    let rest : List Highlighter = filter (is_of_scope scope) (drop (i + 1) rows) in
    ap (painting_at scope) (drop_more rows i row inside ∙ ap (λ x. x ∷ drop (i + 1) rows) (sym at))
    ∙ ap (λ t. map (λ (r : Highlighter). r.paints) (cond t (row ∷ rest) rest)) (sym is)
    ∙ map-cond (λ (r : Highlighter). r.paints) b row rest

pub painting-not : (scope : Scope) (rows : List Highlighter) (i : ℕ) (row : Highlighter) → i < length rows → row ≡ get_or rows i row → is_of_scope scope row ≡ false →
    painting_at scope (drop i rows) ≡ painting_at scope (drop (i + 1) rows)
painting-not scope rows i row inside at fails = painting-drop scope rows i row false inside at (sym fails)

pub painting-more : (scope : Scope) (rows : List Highlighter) (i : ℕ) (row : Highlighter) → i < length rows → row ≡ get_or rows i row → is_of_scope scope row ≡ true →
    painting_at scope (drop i rows) ≡ row.paints ∷ painting_at scope (drop (i + 1) rows)
painting-more scope rows i row inside at holds = painting-drop scope rows i row true inside at (sym holds)
