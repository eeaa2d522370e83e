use Rattle.std.proofs.Common.{refl}
use Rattle.survey.specs.Checks.{first_bad, first_repeated, first_open}
use Rattle.survey.specs.Ringwalk.{first_unringed}
use Rattle.runs.proofs.theorems.decoded_cases.Goals as goal

pub returns : goal.returns
unfolding first_bad first_repeated first_open first_unringed
returns c = record {
  case_0 = refl;
  case_1 = refl;
  case_2 = refl;
  case_3 = refl;
  case_4 = refl;
  case_5 = refl;
  case_6 = refl;
  case_7 = refl;
  case_8 = refl;
  case_9 = refl;
  case_10 = refl;
  case_11 = refl;
  case_12 = refl;
  case_13 = refl;
  case_14 = refl;
  case_15 = refl;
  case_16 = refl;
  case_17 = refl;
  case_18 = refl;
  case_19 = refl;
  case_20 = refl;
  case_21 = refl;
  case_22 = refl;
  case_23 = refl;
  case_24 = refl;
  case_25 = refl;
  case_26 = refl;
  case_27 = refl;
  case_28 = refl;
  case_29 = refl;
  case_30 = refl;
  case_31 = refl;
  case_32 = refl;
  case_33 = refl;
  case_34 = refl;
  case_35 = refl;
  case_36 = refl;
  case_37 = refl;
  case_38 = refl;
  case_39 = refl;
  case_40 = refl;
  case_41 = refl;
  case_42 = refl;
  case_43 = refl;
  case_44 = refl;
  case_45 = refl;
  case_46 = refl;
  case_47 = refl;
  case_48 = refl;
  case_49 = refl;
  case_50 = refl;
  case_51 = refl;
  case_52 = refl;
  case_53 = refl;
  case_54 = refl;
  case_55 = refl;
  case_56 = refl;
  case_57 = refl;
  case_58 = refl;
  case_59 = refl;
}
