-- The laws of the calls on intervals, gathered.
use Rattle.std.proofs.Common.{List, ℤ, ◌*ℤ◌}
use Rattle.sp_lattice.specs.declared.ranges.Range.{Range}
use Rattle.sp_lattice.specs.Range.{IsIntegerRange}
use Rattle.sp_lattice.specs.Ladder.{IsLadder}
use Rattle.sp_interval.specs.declared.interval.Interval.TheVariants.{Of}
use Rattle.sp_interval.specs.Inclusion.{interval_lawful, hull-monotone}
use Rattle.sp_interval.specs.Laws.{IsRangeLawful, IsLadderLawful, IsHeldLawful, IntervalLaws}
use Rattle.sp_interval.proofs.Hulls.{Holds-le, ordered_from_formed, whole-above, formed_below, hull-formed}
use Rattle.sp_interval.proofs.Betweens.{between-monotone}
use Rattle.sp_interval.proofs.Floors.{quotient-le}
use Rattle.sp_interval.proofs.Ranged.{ranged-within, ranged-monotone, ranged-formed, whole_range-formed}
use Rattle.sp_interval.proofs.Corners.{corners-ordered}
use Rattle.sp_interval.proofs.Sums.{sum_of-ordered, sum_of-monotone, difference_of-ordered, difference_of-monotone, added-monotone, added-formed, subtracted-monotone, subtracted-formed}
use Rattle.sp_interval.proofs.Products.{product_of-monotone, multiplied-monotone, multiplied-formed}
use Rattle.sp_interval.proofs.Quotients.{divided-monotone, divided-formed}
use Rattle.sp_interval.proofs.Remainders.{remaindered-monotone, remaindered-formed}
use Rattle.sp_interval.proofs.ShiftLaws.{shifted_left-monotone, shifted_left-formed, shifted_right-monotone, shifted_right-formed}
use Rattle.sp_interval.proofs.Bits.{anded-monotone, anded-formed, ored-monotone, ored-formed, xored-monotone, xored-formed}
use Rattle.sp_interval.proofs.Meets.{met-monotone, met-formed, met-left, met-right, met-held, refined-monotone, refined-formed, refined-within}
use Rattle.sp_interval.proofs.Snapping.{snapped-held, snapped-formed, snapped-above, snapped-same, snapped-monotone, held-formed, hull-held, range-held, whole-held, rank-rises, rank-le, rank-bound}

with_range : (kind : Range) → IsIntegerRange kind → IsRangeLawful kind
with_range kind range = record {
  added_laws = record { formed = λ i j. added-formed kind i j range; monotone = λ i j k l. added-monotone kind i j k l range };
  subtracted_laws = record { formed = λ i j. subtracted-formed kind i j range; monotone = λ i j k l. subtracted-monotone kind i j k l range };
  multiplied_laws = record { formed = λ i j. multiplied-formed kind i j range; monotone = λ i j k l. multiplied-monotone kind i j k l range };
  divided_laws = record { formed = λ i j. divided-formed kind i j range; monotone = λ i j k l. divided-monotone kind i j k l range };
  remaindered_laws = record { formed = λ i j. remaindered-formed kind i j range; monotone = λ i j k l. remaindered-monotone kind i j k l range };
  shifted_left_laws = record { formed = λ i j. shifted_left-formed kind i j range; monotone = λ i j k l. shifted_left-monotone kind i j k l range };
  shifted_right_laws = record { formed = λ i j. shifted_right-formed kind i j range; monotone = λ i j k l. shifted_right-monotone kind i j k l range };
  anded_laws = record { formed = λ i j. anded-formed kind i j range; monotone = λ i j k l. anded-monotone kind i j k l range };
  ored_laws = record { formed = λ i j. ored-formed kind i j range; monotone = λ i j k l. ored-monotone kind i j k l range };
  xored_laws = record { formed = λ i j. xored-formed kind i j range; monotone = λ i j k l. xored-monotone kind i j k l range };
  every_formed = whole_range-formed kind (Of kind.lo kind.hi) range;
  ranged_formed = λ i. ranged-formed kind i range;
  ranged_within = λ i. ranged-within kind i range;
  ranged_monotone = λ i j. ranged-monotone kind i j range;
}

on_ladder : (points : List ℤ) → IsLadder points → IsLadderLawful points
on_ladder points ladder = record {
  snapped_held = λ i. snapped-held points i ladder;
  snapped_formed = λ i. snapped-formed points i ladder;
  snapped_above = λ i. snapped-above points i ladder;
  snapped_same = λ i. snapped-same points i ladder;
  range_held = λ kind. range-held points kind ladder;
  whole_held = whole-held points ladder;
}

held : (points : List ℤ) → IsHeldLawful points
held points = record {
  formed = held-formed points;
  hull_held = hull-held points;
  met_held = met-held points;
  snapped_monotone = snapped-monotone points;
  rank_rises = rank-rises points;
  rank_monotone = rank-le points;
  rank_most = rank-bound points;
}

pub interval_laws : IntervalLaws
interval_laws = record {
  lattice = interval_lawful;
  members = Holds-le;
  ordered = ordered_from_formed;
  below_whole = whole-above;
  formed_below = formed_below;
  hull_laws = record { formed = hull-formed; monotone = λ i j k l h g. hull-monotone i j k l };
  met_laws = record { formed = met-formed; monotone = met-monotone };
  met_left = met-left;
  met_right = met-right;
  refined_laws = λ op. record { formed = refined-formed op; monotone = refined-monotone op };
  refined_within = refined-within;
  between_monotone = between-monotone;
  sum_laws = record { ordered = sum_of-ordered; monotone = λ i j k l h g. sum_of-monotone i j k l };
  difference_laws = record { ordered = difference_of-ordered; monotone = λ i j k l h g. difference_of-monotone i j k l };
  product_laws = record { ordered = λ i j h g. corners-ordered (λ x y. x *ℤ y) i j; monotone = product_of-monotone };
  floor_monotone = quotient-le;
  with_range = with_range;
  on_ladder = on_ladder;
  held = held;
}
