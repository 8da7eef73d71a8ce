-- Worked rows of the definitions, which compute.
use Rattle.std.specs.Prelude.{◌≡◌, refl}
use Rattle.vers_tally.specs.Reads.{digits, clog, one_more}

pub digits-0 : digits 0 ≡ 0
unfolding digits
digits-0 = refl

pub digits-1 : digits 1 ≡ 1
unfolding digits
digits-1 = refl

pub digits-7 : digits 7 ≡ 3
unfolding digits
digits-7 = refl

pub digits-8 : digits 8 ≡ 4
unfolding digits
digits-8 = refl

pub clog-0 : clog 0 ≡ 0
unfolding digits
clog-0 = refl

pub clog-1 : clog 1 ≡ 0
unfolding digits
clog-1 = refl

pub clog-8 : clog 8 ≡ 3
unfolding digits
clog-8 = refl

pub clog-11 : clog 11 ≡ 4
unfolding digits
clog-11 = refl

pub one_more-6 : one_more 6 ≡ 7
one_more-6 = refl

-- a counter stops at its greatest value
pub one_more-greatest : one_more 18446744073709551615 ≡ 18446744073709551615
one_more-greatest = refl
