-- What passes between files and whoever reads and writes them: nothing, one call, and one part after another.
use Rattle.std.proofs.Common.{◌≡◌, ℕ, zero, suc, ◌+◌, ◌-◌, ◌^◌, ◌≤◌, min, Bool, true, false, List, [], ◌∷◌, ◌++◌, cond, refl, sym, ap, ◌∙◌, subst, Some, None, true≢false, arith}
use Rattle.std.specs.declared.option.Option.{Option}
use Rattle.std.specs.Str.{bytes_eq}
use Rattle.std.proofs.lemmas.Slice.Eq.{bytes_eq-Decides}
use Rattle.std.proofs.lemmas.List.Sums.{sum_by-append}
use Rattle.kak_ports.specs.declared.sink.Put.{Put}
use Rattle.kak_ports.specs.declared.sink.Put.TheVariants.{Done, Failed as PutFailed}
use Rattle.kak_files.specs.declared.files.TheConstants.{MAX_FILE}
use Rattle.kak_files.specs.declared.files.FileRead.{FileRead}
use Rattle.kak_files.specs.declared.files.FileRead.TheVariants.{Bytes, NotThere, TooBig, Failed as ReadFailed}
use Rattle.kak_files.specs.Files.{Content, FileRow, content_of, ToldFiles, Shelf, IsAnswer, one_more, raised, Reads, ReadIsCounted, content_left_by, ChangesOnly, Writes, WriteIsCounted}
use Rattle.kak_files.specs.Exchanges.{Exchange, Read, Written, held_behind_exchange, held_after, Agrees, Agree, exchange_fails, failures, AreAlike, LeadsTo, Leads, Passed}

-- what is held alike is held alike behind one exchange more
alike-behind : (spare : Bool) (exchange : Exchange) (here there : List FileRow) → AreAlike here there → AreAlike (held_behind_exchange spare exchange here) (held_behind_exchange spare exchange there)
alike-behind spare (Read name answer) here there alike = alike
alike-behind spare (Written name bytes answer) here there alike = λ other. at_row (bytes_eq name other) other where
  at_row : (b : Bool) (other : List ℕ) → cond b (content_left_by answer bytes spare (content_of name here)) (content_of other here) ≡ cond b (content_left_by answer bytes spare (content_of name there)) (content_of other there)
  at_row true other = ap (content_left_by answer bytes spare) (alike name)
  at_row false other = alike other

alike-after : (spare : Bool) (exchanges : List Exchange) (here there : List FileRow) → AreAlike here there → AreAlike (held_after spare exchanges here) (held_after spare exchanges there)
alike-after spare [] here there alike = alike
alike-after spare (exchange ∷ later) here there alike = alike-after spare later (held_behind_exchange spare exchange here) (held_behind_exchange spare exchange there) (alike-behind spare exchange here there alike)

agrees-alike : (max : ℕ) (exchange : Exchange) (here there : List FileRow) → AreAlike here there → Agrees max here exchange → Agrees max there exchange
agrees-alike max (Read name answer) here there alike a = subst (IsAnswer answer max) (alike name) a
agrees-alike max (Written name bytes answer) here there alike a = tt

-- exchanges that agree with what is held agree with what is held alike
agree-alike : (max : ℕ) (spare : Bool) (exchanges : List Exchange) (here there : List FileRow) → AreAlike here there → Agree max spare here exchanges → Agree max spare there exchanges
agree-alike max spare [] here there alike a = tt
agree-alike max spare (exchange ∷ later) here there alike a =
    (agrees-alike max exchange here there alike a.0, agree-alike max spare later (held_behind_exchange spare exchange here) (held_behind_exchange spare exchange there) (alike-behind spare exchange here there alike) a.1)

-- what is held after two parts
held_after-append : (spare : Bool) (a b : List Exchange) (held : List FileRow) → held_after spare (a ++ b) held ≡ held_after spare b (held_after spare a held)
held_after-append spare [] b held = refl
held_after-append spare (exchange ∷ a) b held = held_after-append spare a b (held_behind_exchange spare exchange held)

agree-append : (max : ℕ) (spare : Bool) (a b : List Exchange) (held : List FileRow) → Agree max spare held a → Agree max spare (held_after spare a held) b → Agree max spare held (a ++ b)
agree-append max spare [] b held one other = other
agree-append max spare (exchange ∷ a) b held one other = (one.0, agree-append max spare a b (held_behind_exchange spare exchange held) one.1 other)

-- two stretches of a count
raised-more : (a b count : ℕ) → raised (a + b) count ≡ raised b (raised a count)
raised-more zero b count = let e : 0 + b ≡ b = omega arith in ap (λ n. raised n count) e
raised-more (suc a) b count = let e : suc a + b ≡ suc (a + b) = omega arith in ap (λ n. raised n count) e ∙ raised-more a b (one_more count)

raised-append : (a b : List Exchange) (count : ℕ) → raised (failures (a ++ b)) count ≡ raised (failures b) (raised (failures a) count)
raised-append a b count = ap (λ n. raised n count) (sum_by-append (λ e. cond (exchange_fails e) 1 0) a b) ∙ raised-more (failures a) (failures b) count

-- a count in its range rises by as much, or to the end of it
pub raised-range : (times count : ℕ) → count ≤ 2 ^ 64 - 1 → raised times count ≡ min (count + times) (2 ^ 64 - 1)
raised-range zero count most = omega arith
raised-range (suc times) count most = raised-range times (one_more count) (omega arith) ∙ one_and_more times count
  where
    one_and_more : (times count : ℕ) → min (min (count + 1) (2 ^ 64 - 1) + times) (2 ^ 64 - 1) ≡ min (count + suc times) (2 ^ 64 - 1)
    one_and_more times count = omega arith

leads_to-trans : (a b : List Exchange) (old mid new : ToldFiles) → LeadsTo a old mid → LeadsTo b mid new → LeadsTo (a ++ b) old new
leads_to-trans a b old mid new one other =
    let P : Bool → Type 0 = λ s. Agree MAX_FILE s mid.held b in
    let Q : Bool → Type 0 = λ s. AreAlike new.held (held_after s b mid.held) in
    let agree : Agree MAX_FILE old.spare mid.held b = subst P one.spare other.agree in
    let held : AreAlike new.held (held_after old.spare b mid.held) = subst Q one.spare other.held in
    record {
      opening = other.opening ∙ one.opening;
      spare = other.spare ∙ one.spare;
      agree = agree-append MAX_FILE old.spare a b old.held one.agree (agree-alike MAX_FILE old.spare b mid.held (held_after old.spare a old.held) one.held agree);
      held = λ name. held name ∙ alike-after old.spare b mid.held (held_after old.spare a old.held) one.held name ∙ ap (content_of name) (sym (held_after-append old.spare a b old.held));
    }

pub leads-trans : (a b : List Exchange) (old mid new : Option ToldFiles) → Leads a old mid → Leads b mid new → Leads (a ++ b) old new
leads-trans a b None None None one other = tt
leads-trans a b None None (Some new) one other = absurd other
leads-trans a b None (Some mid) new one other = absurd one
leads-trans a b (Some old) None new one other = absurd one
leads-trans a b (Some old) (Some mid) None one other = absurd other
leads-trans a b (Some old) (Some mid) (Some new) one other = leads_to-trans a b old mid new one other

-- what passes in two stretches passes in one
pub passed-trans : (a b : List Exchange) (old mid new : Shelf) → Passed a old mid → Passed b mid new → Passed (a ++ b) old new
passed-trans a b old mid new one other = record {
  told = leads-trans a b old.told mid.told new.told one.told other.told;
  counted = other.counted ∙ ap (raised (failures b)) one.counted ∙ sym (raised-append a b old.faults);
}

pub leads-none : (told : Option ToldFiles) → Leads [] told told
leads-none None = tt
leads-none (Some told) = record { opening = refl; spare = refl; agree = tt; held = λ name. refl }

-- nothing passes while the files stay as they are
pub passed-none : (shelf : Shelf) → Passed [] shelf shelf
passed-none shelf = record { told = leads-none shelf.told; counted = refl }

pub passed-same : (old new : Shelf) → new ≡ old → Passed [] old new
passed-same old new same = let P : Shelf → Type 0 = λ s. Passed [] old s in subst P (sym same) (passed-none old)

leads-read : (name : List ℕ) (answer : FileRead) (told : Option ToldFiles) → Reads answer name MAX_FILE told → Leads (Read name answer ∷ []) told told
leads-read name answer None reads = tt
leads-read name answer (Some told) reads = record {
  opening = refl;
  spare = refl;
  agree = (reads, tt);
  held = λ other. refl;
}

read-counted : (name : List ℕ) (answer : FileRead) (before now : ℕ) → ReadIsCounted answer before now → now ≡ raised (failures (Read name answer ∷ [])) before
read-counted name ReadFailed before now counted = counted
read-counted name (Bytes bytes) before now counted = counted
read-counted name NotThere before now counted = counted
read-counted name TooBig before now counted = counted

-- one read of at most `MAX_FILE` bytes passes
pub passed-read : (name : List ℕ) (answer : FileRead) (old new : Shelf) → Reads answer name MAX_FILE old.told → new.told ≡ old.told → ReadIsCounted answer old.faults new.faults → Passed (Read name answer ∷ []) old new
passed-read name answer old new reads keeps counted = record {
  told = let P : Option ToldFiles → Type 0 = λ t. Leads (Read name answer ∷ []) old.told t in subst P (sym keeps) (leads-read name answer old.told reads);
  counted = read-counted name answer old.faults new.faults counted;
}

-- what is held after a write
alike-written : (name bytes : List ℕ) (content : Content) (old new : ToldFiles) → ChangesOnly name content old new → AreAlike new.held (record { name = name; content = content } ∷ old.held)
alike-written name bytes content old new changes = λ other. at_row (bytes_eq name other) other (bytes_eq-Decides name other) where
  at_row : (b : Bool) (other : List ℕ) → ((b ≡ true → name ≡ other) × (name ≡ other → b ≡ true)) → content_of other new.held ≡ cond b content (content_of other old.held)
  at_row true other same = let P : List ℕ → Type 0 = λ n. content_of n new.held ≡ content in
      subst P (same.0 refl) changes.this
  at_row false other same = changes.others other (λ e. true≢false (sym (same.1 (sym e))))

leads-written : (name bytes : List ℕ) (answer : Put) (old new : Option ToldFiles) → Writes answer name bytes old new → Leads (Written name bytes answer ∷ []) old new
leads-written name bytes answer None None writes = tt
leads-written name bytes answer None (Some new) writes = absurd writes
leads-written name bytes answer (Some old) None writes = absurd writes
leads-written name bytes answer (Some old) (Some new) writes = record {
  opening = writes.opening;
  spare = writes.spare;
  agree = (tt, tt);
  held = alike-written name bytes (content_left_by answer bytes old.spare (content_of name old.held)) old new writes;
}

write-counted : (name bytes : List ℕ) (answer : Put) (before now : ℕ) → WriteIsCounted answer before now → now ≡ raised (failures (Written name bytes answer ∷ [])) before
write-counted name bytes Done before now counted = counted
write-counted name bytes PutFailed before now counted = counted

-- one write passes
pub passed-written : (name bytes : List ℕ) (answer : Put) (old new : Shelf) → Writes answer name bytes old.told new.told → WriteIsCounted answer old.faults new.faults → Passed (Written name bytes answer ∷ []) old new
passed-written name bytes answer old new writes counted = record {
  told = leads-written name bytes answer old.told new.told writes;
  counted = write-counted name bytes answer old.faults new.faults counted;
}

raised-not_fallen : (times before : ℕ) → min before (2 ^ 64 - 1) ≤ raised times before
raised-not_fallen zero before = omega arith
raised-not_fallen (suc times) before = low before (raised times (one_more before)) (raised-not_fallen times (one_more before))
  where
    low : (before now : ℕ) → min (min (before + 1) (2 ^ 64 - 1)) (2 ^ 64 - 1) ≤ now → min before (2 ^ 64 - 1) ≤ now
    low before now most = omega arith

-- the count of faults doesn't fall, as far as to the end of its range
pub faults-not_fallen : (exchanges : List Exchange) (old new : Shelf) → Passed exchanges old new → min old.faults (2 ^ 64 - 1) ≤ new.faults
faults-not_fallen exchanges old new passed = let P : ℕ → Type 0 = λ n. min old.faults (2 ^ 64 - 1) ≤ n in
    subst P (sym passed.counted) (raised-not_fallen (failures exchanges) old.faults)
