-- Clients at their places.
use Rattle.std.proofs.Common.{◌≡◌, ℕ, suc, ◌+◌, ◌<◌, Bool, true, false, ◌||◌, eqb, List, [], ◌∷◌, length, get_or, set, refl, sym, ap, ◌∙◌, arith}
use Rattle.std.specs.Prelude.{nat_lt, if◌then◌else◌}
use Rattle.std.specs.List.{list_any}
use Rattle.std.proofs.lemmas.Bool.{lt-ltb, ltb-true}
use Rattle.tables.specs.Tables.{first_where, place_where, changed_where}
use Rattle.tables.proofs.TableLemmas.{first-at}
use Rattle.tables.proofs.RowLemmas.{place-inside, inside-any, changed-place}
use Rattle.kak_world.specs.declared.own.Own.{Own}
use Rattle.kak_world.specs.declared.clients.Client.{Client}
use Rattle.kak_world.specs.Flat.{is_of, is_here, newcomer, first_free, numbers_of}

-- whether a client is there, by its place
pub here-test : (who : ℕ) (rows clients : List Client) (n len : ℕ) → rows ≡ clients → n ≡ place_where (is_of who) rows → len ≡ length rows → nat_lt n len ≡ is_here who clients
here-test who rows clients n len e p l =
    ap (λ k. nat_lt k len) p ∙ ap (nat_lt (place_where (is_of who) rows)) l ∙ by (list_any (is_of who) rows) (nat_lt (place_where (is_of who) rows) (length rows)) refl refl ∙ ap (is_here who) e
  where
    by : (t s : Bool) → list_any (is_of who) rows ≡ t → nat_lt (place_where (is_of who) rows) (length rows) ≡ s → nat_lt (place_where (is_of who) rows) (length rows) ≡ list_any (is_of who) rows
    by true s t q = lt-ltb (place_where (is_of who) rows) (length rows) (place-inside (is_of who) rows t) ∙ sym t
    by false false t q = q ∙ sym t
    by false true t q = absurd (let some : list_any (is_of who) rows ≡ true = inside-any (is_of who) rows (ltb-true _ _ q) in let no : false ≡ true = sym t ∙ some in cc)

pub client-inside : (who : ℕ) (rows clients : List Client) (n : ℕ) → rows ≡ clients → is_here who clients ≡ true → n ≡ place_where (is_of who) rows → n < length rows
client-inside who rows clients n e h p = let inside : place_where (is_of who) rows < length rows = place-inside (is_of who) rows (ap (is_here who) e ∙ h) in omega arith

pub client-read : (who : ℕ) (rows clients : List Client) (n : ℕ) (client : Client) → rows ≡ clients → is_here who clients ≡ true → n ≡ place_where (is_of who) rows → client ≡ get_or rows n client → client ≡ first_where (is_of who) (newcomer who 0 0) clients
client-read who rows clients n client e h p r = first-at (is_of who) (newcomer who 0 0) client rows clients n e p (client-inside who rows clients n e h p) r

-- the client at its place, with another own part
pub client-set : (who : ℕ) (clients : List Client) (n : ℕ) (client : Client) (o : Own) → is_here who clients ≡ true → n ≡ place_where (is_of who) clients → client ≡ get_or clients n client → set clients n (record client { own = o }) ≡ changed_where (is_of who) (λ c. record c { own = o }) clients
client-set who clients n client o h p r =
    let inside : place_where (is_of who) clients < length clients = place-inside (is_of who) clients h in
    ap (λ (x : Client). set clients n (record x { own = o })) r
    ∙ ap (λ k. set clients k (record (get_or clients k client) { own = o })) p
    ∙ sym (changed-place (is_of who) (λ c. record c { own = o }) client clients inside)

-- looking for a free number
pub free-on : (left n : ℕ) (numbers : List ℕ) (free : ℕ) → list_any (λ m. eqb m n) numbers ≡ true → first_free (suc left) n numbers ≡ free → first_free left (n + 1) numbers ≡ free
free-on left n numbers free t e = sym (ap (λ b. if b then first_free left (n + 1) numbers else n) t) ∙ e

pub free-here : (left n : ℕ) (numbers : List ℕ) (free : ℕ) → list_any (λ m. eqb m n) numbers ≡ false → first_free (suc left) n numbers ≡ free → n ≡ free
free-here left n numbers free t e = sym (ap (λ b. if b then first_free left (n + 1) numbers else n) t) ∙ e

pub any-number : (number : ℕ) (clients : List Client) → list_any (λ (c : Client). eqb c.number number) clients ≡ list_any (λ m. eqb m number) (numbers_of clients)
any-number number [] = refl
any-number number (c ∷ cs) = ap (λ b. eqb c.number number || b) (any-number number cs)
