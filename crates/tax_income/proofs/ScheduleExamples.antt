-- The schedule of 2023 by hand: at each end of each band, a cent below and a cent above, from the printed schedules, which give the tax of
-- the bands below and the rate of what is over them.
use Rattle.std.proofs.Common.{◌≡◌, pos, ℤ, List, [], ◌∷◌, map, refl}
use Rattle.tax_2023.specs.Household.{Status, single, separately, jointly, surviving_spouse, head_of_household}
use Rattle.tax_income.specs.Tables.{schedule, thousands}
use Rattle.tax_2023.specs.declared.years.TaxYear.TheVariants.{Year2023, Year2024}
use Rattle.tax_income.specs.Years.{income_of}

abbrev taxes : Status → List ℤ → List ℤ
taxes s ts = map (schedule (income_of Year2023) s) ts

-- single
single_11000 : taxes single (pos 1099999 ∷ pos 1100000 ∷ pos 1100001 ∷ pos 1100005 ∷ []) ≡ pos 110000 ∷ pos 110000 ∷ pos 110000 ∷ pos 110001 ∷ []
single_11000 = refl

single_44725 : taxes single (pos 4472499 ∷ pos 4472500 ∷ pos 4472501 ∷ pos 4472505 ∷ []) ≡ pos 514700 ∷ pos 514700 ∷ pos 514700 ∷ pos 514701 ∷ []
single_44725 = refl

single_95375 : taxes single (pos 9537499 ∷ pos 9537500 ∷ pos 9537501 ∷ pos 9537505 ∷ []) ≡ pos 1629000 ∷ pos 1629000 ∷ pos 1629000 ∷ pos 1629001 ∷ []
single_95375 = refl

single_182100 : taxes single (pos 18209999 ∷ pos 18210000 ∷ pos 18210001 ∷ pos 18210005 ∷ []) ≡ pos 3710400 ∷ pos 3710400 ∷ pos 3710400 ∷ pos 3710402 ∷ []
single_182100 = refl

single_231250 : taxes single (pos 23124999 ∷ pos 23125000 ∷ pos 23125001 ∷ pos 23125005 ∷ []) ≡ pos 5283200 ∷ pos 5283200 ∷ pos 5283200 ∷ pos 5283202 ∷ []
single_231250 = refl

single_578125 : taxes single (pos 57812499 ∷ pos 57812500 ∷ pos 57812501 ∷ pos 57812505 ∷ []) ≡ pos 17423825 ∷ pos 17423825 ∷ pos 17423825 ∷ pos 17423827 ∷ []
single_578125 = refl

-- separately
separately_11000 : taxes separately (pos 1099999 ∷ pos 1100000 ∷ pos 1100001 ∷ pos 1100005 ∷ []) ≡ pos 110000 ∷ pos 110000 ∷ pos 110000 ∷ pos 110001 ∷ []
separately_11000 = refl

separately_44725 : taxes separately (pos 4472499 ∷ pos 4472500 ∷ pos 4472501 ∷ pos 4472505 ∷ []) ≡ pos 514700 ∷ pos 514700 ∷ pos 514700 ∷ pos 514701 ∷ []
separately_44725 = refl

separately_95375 : taxes separately (pos 9537499 ∷ pos 9537500 ∷ pos 9537501 ∷ pos 9537505 ∷ []) ≡ pos 1629000 ∷ pos 1629000 ∷ pos 1629000 ∷ pos 1629001 ∷ []
separately_95375 = refl

separately_182100 : taxes separately (pos 18209999 ∷ pos 18210000 ∷ pos 18210001 ∷ pos 18210005 ∷ []) ≡ pos 3710400 ∷ pos 3710400 ∷ pos 3710400 ∷ pos 3710402 ∷ []
separately_182100 = refl

separately_231250 : taxes separately (pos 23124999 ∷ pos 23125000 ∷ pos 23125001 ∷ pos 23125005 ∷ []) ≡ pos 5283200 ∷ pos 5283200 ∷ pos 5283200 ∷ pos 5283202 ∷ []
separately_231250 = refl

separately_346875 : taxes separately (pos 34687499 ∷ pos 34687500 ∷ pos 34687501 ∷ pos 34687505 ∷ []) ≡ pos 9330075 ∷ pos 9330075 ∷ pos 9330075 ∷ pos 9330077 ∷ []
separately_346875 = refl

-- jointly
jointly_22000 : taxes jointly (pos 2199999 ∷ pos 2200000 ∷ pos 2200001 ∷ pos 2200005 ∷ []) ≡ pos 220000 ∷ pos 220000 ∷ pos 220000 ∷ pos 220001 ∷ []
jointly_22000 = refl

jointly_89450 : taxes jointly (pos 8944999 ∷ pos 8945000 ∷ pos 8945001 ∷ pos 8945005 ∷ []) ≡ pos 1029400 ∷ pos 1029400 ∷ pos 1029400 ∷ pos 1029401 ∷ []
jointly_89450 = refl

jointly_190750 : taxes jointly (pos 19074999 ∷ pos 19075000 ∷ pos 19075001 ∷ pos 19075005 ∷ []) ≡ pos 3258000 ∷ pos 3258000 ∷ pos 3258000 ∷ pos 3258001 ∷ []
jointly_190750 = refl

jointly_364200 : taxes jointly (pos 36419999 ∷ pos 36420000 ∷ pos 36420001 ∷ pos 36420005 ∷ []) ≡ pos 7420800 ∷ pos 7420800 ∷ pos 7420800 ∷ pos 7420802 ∷ []
jointly_364200 = refl

jointly_462500 : taxes jointly (pos 46249999 ∷ pos 46250000 ∷ pos 46250001 ∷ pos 46250005 ∷ []) ≡ pos 10566400 ∷ pos 10566400 ∷ pos 10566400 ∷ pos 10566402 ∷ []
jointly_462500 = refl

jointly_693750 : taxes jointly (pos 69374999 ∷ pos 69375000 ∷ pos 69375001 ∷ pos 69375005 ∷ []) ≡ pos 18660150 ∷ pos 18660150 ∷ pos 18660150 ∷ pos 18660152 ∷ []
jointly_693750 = refl

-- surviving spouse
surviving_spouse_22000 : taxes surviving_spouse (pos 2199999 ∷ pos 2200000 ∷ pos 2200001 ∷ pos 2200005 ∷ []) ≡ pos 220000 ∷ pos 220000 ∷ pos 220000 ∷ pos 220001 ∷ []
surviving_spouse_22000 = refl

surviving_spouse_89450 : taxes surviving_spouse (pos 8944999 ∷ pos 8945000 ∷ pos 8945001 ∷ pos 8945005 ∷ []) ≡ pos 1029400 ∷ pos 1029400 ∷ pos 1029400 ∷ pos 1029401 ∷ []
surviving_spouse_89450 = refl

surviving_spouse_190750 : taxes surviving_spouse (pos 19074999 ∷ pos 19075000 ∷ pos 19075001 ∷ pos 19075005 ∷ []) ≡ pos 3258000 ∷ pos 3258000 ∷ pos 3258000 ∷ pos 3258001 ∷ []
surviving_spouse_190750 = refl

surviving_spouse_364200 : taxes surviving_spouse (pos 36419999 ∷ pos 36420000 ∷ pos 36420001 ∷ pos 36420005 ∷ []) ≡ pos 7420800 ∷ pos 7420800 ∷ pos 7420800 ∷ pos 7420802 ∷ []
surviving_spouse_364200 = refl

surviving_spouse_462500 : taxes surviving_spouse (pos 46249999 ∷ pos 46250000 ∷ pos 46250001 ∷ pos 46250005 ∷ []) ≡ pos 10566400 ∷ pos 10566400 ∷ pos 10566400 ∷ pos 10566402 ∷ []
surviving_spouse_462500 = refl

surviving_spouse_693750 : taxes surviving_spouse (pos 69374999 ∷ pos 69375000 ∷ pos 69375001 ∷ pos 69375005 ∷ []) ≡ pos 18660150 ∷ pos 18660150 ∷ pos 18660150 ∷ pos 18660152 ∷ []
surviving_spouse_693750 = refl

-- head of household
head_of_household_15700 : taxes head_of_household (pos 1569999 ∷ pos 1570000 ∷ pos 1570001 ∷ pos 1570005 ∷ []) ≡ pos 157000 ∷ pos 157000 ∷ pos 157000 ∷ pos 157001 ∷ []
head_of_household_15700 = refl

head_of_household_59850 : taxes head_of_household (pos 5984999 ∷ pos 5985000 ∷ pos 5985001 ∷ pos 5985005 ∷ []) ≡ pos 686800 ∷ pos 686800 ∷ pos 686800 ∷ pos 686801 ∷ []
head_of_household_59850 = refl

head_of_household_95350 : taxes head_of_household (pos 9534999 ∷ pos 9535000 ∷ pos 9535001 ∷ pos 9535005 ∷ []) ≡ pos 1467800 ∷ pos 1467800 ∷ pos 1467800 ∷ pos 1467801 ∷ []
head_of_household_95350 = refl

head_of_household_182100 : taxes head_of_household (pos 18209999 ∷ pos 18210000 ∷ pos 18210001 ∷ pos 18210005 ∷ []) ≡ pos 3549800 ∷ pos 3549800 ∷ pos 3549800 ∷ pos 3549802 ∷ []
head_of_household_182100 = refl

head_of_household_231250 : taxes head_of_household (pos 23124999 ∷ pos 23125000 ∷ pos 23125001 ∷ pos 23125005 ∷ []) ≡ pos 5122600 ∷ pos 5122600 ∷ pos 5122600 ∷ pos 5122602 ∷ []
head_of_household_231250 = refl

head_of_household_578100 : taxes head_of_household (pos 57809999 ∷ pos 57810000 ∷ pos 57810001 ∷ pos 57810005 ∷ []) ≡ pos 17262350 ∷ pos 17262350 ∷ pos 17262350 ∷ pos 17262352 ∷ []
head_of_household_578100 = refl

-- ---- 2024: at the end of each band but the last, and 100.00 above it, from the printed schedule

abbrev taxes_2024 : Status → List ℤ → List ℤ
taxes_2024 s ts = map (schedule (income_of Year2024) s) ts

single_in_2024 : taxes_2024 single (pos 1160000 ∷ pos 1170000 ∷ pos 4715000 ∷ pos 4725000 ∷ pos 10052500 ∷ pos 10062500 ∷ pos 19195000 ∷ pos 19205000 ∷ pos 24372500 ∷ pos 24382500 ∷ pos 60935000 ∷ pos 60945000 ∷ [])
    ≡ pos 116000 ∷ pos 117200 ∷ pos 542600 ∷ pos 544800 ∷ pos 1716850 ∷ pos 1719250 ∷ pos 3911050 ∷ pos 3914250 ∷ pos 5567850 ∷ pos 5571350 ∷ pos 18364725 ∷ pos 18368425 ∷ []
single_in_2024 = refl

separately_in_2024 : taxes_2024 separately (pos 1160000 ∷ pos 1170000 ∷ pos 4715000 ∷ pos 4725000 ∷ pos 10052500 ∷ pos 10062500 ∷ pos 19195000 ∷ pos 19205000 ∷ pos 24372500 ∷ pos 24382500 ∷ pos 36560000 ∷ pos 36570000 ∷ [])
    ≡ pos 116000 ∷ pos 117200 ∷ pos 542600 ∷ pos 544800 ∷ pos 1716850 ∷ pos 1719250 ∷ pos 3911050 ∷ pos 3914250 ∷ pos 5567850 ∷ pos 5571350 ∷ pos 9833475 ∷ pos 9837175 ∷ []
separately_in_2024 = refl

jointly_in_2024 : taxes_2024 jointly (pos 2320000 ∷ pos 2330000 ∷ pos 9430000 ∷ pos 9440000 ∷ pos 20105000 ∷ pos 20115000 ∷ pos 38390000 ∷ pos 38400000 ∷ pos 48745000 ∷ pos 48755000 ∷ pos 73120000 ∷ pos 73130000 ∷ [])
    ≡ pos 232000 ∷ pos 233200 ∷ pos 1085200 ∷ pos 1087400 ∷ pos 3433700 ∷ pos 3436100 ∷ pos 7822100 ∷ pos 7825300 ∷ pos 11135700 ∷ pos 11139200 ∷ pos 19666950 ∷ pos 19670650 ∷ []
jointly_in_2024 = refl

surviving_spouse_in_2024 : taxes_2024 surviving_spouse (pos 2320000 ∷ pos 2330000 ∷ pos 9430000 ∷ pos 9440000 ∷ pos 20105000 ∷ pos 20115000 ∷ pos 38390000 ∷ pos 38400000 ∷ pos 48745000 ∷ pos 48755000 ∷ pos 73120000 ∷ pos 73130000 ∷ [])
    ≡ pos 232000 ∷ pos 233200 ∷ pos 1085200 ∷ pos 1087400 ∷ pos 3433700 ∷ pos 3436100 ∷ pos 7822100 ∷ pos 7825300 ∷ pos 11135700 ∷ pos 11139200 ∷ pos 19666950 ∷ pos 19670650 ∷ []
surviving_spouse_in_2024 = refl

head_of_household_in_2024 : taxes_2024 head_of_household (pos 1655000 ∷ pos 1665000 ∷ pos 6310000 ∷ pos 6320000 ∷ pos 10050000 ∷ pos 10060000 ∷ pos 19195000 ∷ pos 19205000 ∷ pos 24370000 ∷ pos 24380000 ∷ pos 60935000 ∷ pos 60945000 ∷ [])
    ≡ pos 165500 ∷ pos 166700 ∷ pos 724100 ∷ pos 726300 ∷ pos 1546900 ∷ pos 1549300 ∷ pos 3741700 ∷ pos 3744900 ∷ pos 5397700 ∷ pos 5401200 ∷ pos 18195450 ∷ pos 18199150 ∷ []
head_of_household_in_2024 = refl

-- ---- thousands: none of nothing, one of a cent and of 1,000.00, two of a cent more

thousands_of : map thousands (pos 0 ∷ pos 1 ∷ pos 99999 ∷ pos 100000 ∷ pos 100001 ∷ pos 200000 ∷ pos 200001 ∷ []) ≡ 0 ∷ 1 ∷ 1 ∷ 1 ∷ 2 ∷ 2 ∷ 3 ∷ []
unfolding thousands
thousands_of = refl
