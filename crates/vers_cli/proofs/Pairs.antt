-- Documents with their costs, as the numbers of a line write them.
use Rattle.vers_cli.proofs.Names.{◌≡◌, ◌==◌, ◌||◌, ℕ, ◌+◌, ◌≤◌, Bool, true, false, List, [], ◌++◌, length, Option, Some, None, refl, ap, nat_lt, option_map, if◌then◌else◌, option_and_then, le-leb, each_next-rising, each_next, posted_first, rising_count, if_admitted}
use Rattle.std.specs.List.Sorted.{IsStrictlyIncreasing}
use Rattle.vers_rmq.specs.declared.rmq.fast_rmq.TheConstants.{MAX_LEN}
use Rattle.postings.specs.Posted.{Posted}
use Rattle.postings.specs.Makers.{IsRefusedFor}
use Rattle.postings.specs.declared.fault.PostingsError.{PostingsError}
use Rattle.postings.specs.declared.fault.PostingsError.TheVariants.{NotAscending}
use Rattle.vers_cli.proofs.Rises.{rise_from, rise, fall}

-- documents with their costs, and then others
abbrev pub posted_then : List ℕ → List ℕ → Option Posted → Option Posted
posted_then documents costs others = option_map (λ more. record { documents = documents ++ more.documents; costs = costs ++ more.costs }) others

-- how documents ascend after others, as `rise_after` determines it of numbers
abbrev pub documents_after : ℕ → ℕ → Option Posted → Option (ℕ × ℕ)
documents_after len last found = option_and_then (λ posted. rise_from nat_lt len last posted.documents) found

pub documents_after-next : (len last d c : ℕ) (others : Option Posted) (admits : Bool) → ((len == 0) || nat_lt last d) ≡ admits
    → documents_after len last (option_map (posted_first d c) others) ≡ (if admits then documents_after (len + 1) d others else None)
documents_after-next len last d c None true h = refl
documents_after-next len last d c None false h = refl
documents_after-next len last d c (Some more) admits h = rw h refl

-- where no words are left there are no more
pub documents_after-end : (len last : ℕ) (nothing read : Option (Unit {0})) → nothing ≡ read
    → documents_after len last (option_map (λ _. record { documents = []; costs = [] }) nothing) ≡ option_map (λ _. (len, last)) read
documents_after-end len last None read is = ap (option_map (λ _. (len, last))) is
documents_after-end len last (Some nothing) read is = ap (option_map (λ _. (len, last))) is

pub rising_counted : (found : Option Posted) (end : Option (ℕ × ℕ)) → documents_after 0 0 found ≡ end → option_map (λ (e : ℕ × ℕ). e.0) end ≡ rising_count found
rising_counted None end h = rw (← h) refl
rising_counted (Some posted) None h = rw (fall nat_lt posted.documents h) refl
rising_counted (Some posted) (Some end) h = let r = rise nat_lt posted.documents end h in rw (r.0, r.1) refl

-- documents that ascend strictly and are not too many are admitted
pub is_admitted : (posted : Posted) → IsStrictlyIncreasing posted.documents → length posted.documents ≤ MAX_LEN → Some posted ≡ if_admitted posted
is_admitted posted up few = rw ((each_next-rising posted.documents).1 up, le-leb (length posted.documents) MAX_LEN few) refl

-- documents that don't ascend strictly
not_rising : (documents : List ℕ) (answer : Bool) → answer ≡ each_next nat_lt documents → (IsStrictlyIncreasing documents → ⊥) → answer ≡ false
not_rising documents true e not = absurd (not ((each_next-rising documents).0 (rw (← e) refl)))
not_rising documents false e not = refl

-- documents that don't ascend strictly, as their test found, are not admitted
pub not_admitted : (documents costs : List ℕ) (fault : PostingsError) → fault ≡ NotAscending
    → IsRefusedFor documents costs MAX_LEN fault → None ≡ if_admitted (record { documents = documents; costs = costs })
not_admitted documents costs fault is refused =
    let told : IsRefusedFor documents costs MAX_LEN NotAscending = rw is at refused in
    rw (not_rising documents (each_next nat_lt documents) refl told.2) refl
