-- The strides and the two indexes sum to the tables of the rules: computed over the whole of each. Assumes nothing.
use Rattle.std.proofs.Common.{◌≡◌, refl, true}
use Rattle.rules.specs.Tables.{alphabetic_table, numeric_table}
use Rattle.rules.proofs.Tables.{alphabetic-rises, numeric-rises}
use Rattle.classes.specs.declared.tables.TheConstants.{STRIDES, ALPHABETIC, NUMERIC}
use Rattle.classes.specs.Strides.{sums, bounds_from, bounds, places_from, places_rise, Form}

pub alphabetic-sums : bounds STRIDES ALPHABETIC ≡ alphabetic_table
unfolding sums bounds_from alphabetic_table
alphabetic-sums = refl

pub numeric-sums : bounds STRIDES NUMERIC ≡ numeric_table
unfolding sums bounds_from numeric_table
numeric-sums = refl

alphabetic_places : places_rise STRIDES ALPHABETIC ≡ true
unfolding places_from
alphabetic_places = refl

numeric_places : places_rise STRIDES NUMERIC ≡ true
unfolding places_from
numeric_places = refl

-- "They rise and never overlap" is known of the tables.
pub alphabetic_form : Form STRIDES ALPHABETIC
alphabetic_form = record { placed = alphabetic_places; rising = rw alphabetic-sums alphabetic-rises }

pub numeric_form : Form STRIDES NUMERIC
numeric_form = record { placed = numeric_places; rising = rw numeric-sums numeric-rises }
