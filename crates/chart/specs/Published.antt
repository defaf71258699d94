-- The differentials that source 000's appendix publishes, in cents per MWh.
use Rattle.std.specs.Prelude.{List, [], ◌∷◌, ◌++◌, ℕ, ◌-◌, get_or}
use Rattle.chart.specs.declared.Table.{Table}
use Rattle.chart.specs.declared.Table.TheVariants.{Import, Export}

-- 000, appendix, "Virtual Supply Price Differential by Time-of-Day and Proxy Bus": for each bus a line of groups 1 to 6, 7 to 12 and 13 to 18
unfoldable pub import_table : List (List ℕ)
import_table =
    -- Import 1, HQ Wheel
    (3576 ∷ 5609 ∷ 5862 ∷ 3771 ∷ 3815 ∷ 3115 ∷
    5663 ∷ 2922 ∷ 7461 ∷ 3745 ∷ 5517 ∷ 3136 ∷
    3828 ∷ 3465 ∷ 5404 ∷ 3754 ∷ 3162 ∷ 2760 ∷ []) ∷
    -- Import 2, NE
    (3284 ∷ 6612 ∷ 9934 ∷ 3147 ∷ 4179 ∷ 3478 ∷
    6984 ∷ 3628 ∷ 9231 ∷ 5122 ∷ 7809 ∷ 4709 ∷
    4408 ∷ 3974 ∷ 6263 ∷ 4543 ∷ 4757 ∷ 3572 ∷ []) ∷
    -- Import 3, OH
    (3562 ∷ 5482 ∷ 6083 ∷ 3621 ∷ 3391 ∷ 3054 ∷
    5388 ∷ 2501 ∷ 6638 ∷ 3509 ∷ 4351 ∷ 2800 ∷
    3528 ∷ 3355 ∷ 5596 ∷ 4314 ∷ 3050 ∷ 2668 ∷ []) ∷
    -- Import 4, PJM
    (3195 ∷ 8159 ∷ 13042 ∷ 2881 ∷ 3103 ∷ 2478 ∷
    6100 ∷ 2388 ∷ 7299 ∷ 3761 ∷ 4829 ∷ 3018 ∷
    3608 ∷ 3359 ∷ 6054 ∷ 3708 ∷ 3126 ∷ 2438 ∷ []) ∷
    -- Import 5, NE CSC
    (7038 ∷ 22365 ∷ 30668 ∷ 11781 ∷ 9068 ∷ 4717 ∷
    10593 ∷ 6574 ∷ 13661 ∷ 10860 ∷ 9561 ∷ 5186 ∷
    7305 ∷ 6447 ∷ 9392 ∷ 8145 ∷ 7319 ∷ 4461 ∷ []) ∷
    -- Import 6, HQ Import
    (3322 ∷ 5213 ∷ 5447 ∷ 3699 ∷ 3578 ∷ 2993 ∷
    5318 ∷ 2790 ∷ 6968 ∷ 3601 ∷ 5450 ∷ 3040 ∷
    3487 ∷ 3068 ∷ 5335 ∷ 3342 ∷ 2913 ∷ 2688 ∷ []) ∷
    -- Import 7, HQ Cedars
    (3603 ∷ 5696 ∷ 5862 ∷ 3839 ∷ 3815 ∷ 3152 ∷
    5511 ∷ 2957 ∷ 7348 ∷ 3745 ∷ 5567 ∷ 3183 ∷
    3720 ∷ 3429 ∷ 5407 ∷ 3820 ∷ 3195 ∷ 2760 ∷ []) ∷
    -- Import 8, NE 1385
    (7021 ∷ 23184 ∷ 28529 ∷ 10272 ∷ 9022 ∷ 4547 ∷
    10674 ∷ 6855 ∷ 13980 ∷ 9318 ∷ 9302 ∷ 5115 ∷
    7622 ∷ 7128 ∷ 9462 ∷ 8407 ∷ 7469 ∷ 4759 ∷ []) ∷
    -- Import 9, PJM Neptune
    (7139 ∷ 21103 ∷ 32148 ∷ 10081 ∷ 9690 ∷ 4412 ∷
    10555 ∷ 6510 ∷ 13031 ∷ 9353 ∷ 9309 ∷ 5067 ∷
    7015 ∷ 6882 ∷ 9392 ∷ 7751 ∷ 7380 ∷ 4551 ∷ []) ∷
    -- Import 10, PJM VFT
    (4549 ∷ 13628 ∷ 27060 ∷ 4781 ∷ 6195 ∷ 4584 ∷
    9466 ∷ 6768 ∷ 10803 ∷ 6711 ∷ 7381 ∷ 4931 ∷
    7180 ∷ 6284 ∷ 8847 ∷ 6213 ∷ 6054 ∷ 3938 ∷ []) ∷
    []

-- 000, appendix, "Virtual Load Price Differential by Time-of-Day and Proxy Bus": likewise
unfoldable pub export_table : List (List ℕ)
export_table =
    -- Export 1, HQ Wheel
    (4643 ∷ 5657 ∷ 6500 ∷ 5184 ∷ 5197 ∷ 3866 ∷
    4931 ∷ 3541 ∷ 5437 ∷ 4758 ∷ 4621 ∷ 4302 ∷
    3539 ∷ 3304 ∷ 3758 ∷ 3459 ∷ 3563 ∷ 3541 ∷ []) ∷
    -- Export 2, NE
    (3368 ∷ 5115 ∷ 5756 ∷ 3837 ∷ 4123 ∷ 3408 ∷
    4495 ∷ 3651 ∷ 5976 ∷ 4565 ∷ 4388 ∷ 3922 ∷
    3333 ∷ 3253 ∷ 3684 ∷ 3362 ∷ 3472 ∷ 3247 ∷ []) ∷
    -- Export 3, OH
    (2994 ∷ 4145 ∷ 4625 ∷ 3690 ∷ 3556 ∷ 3388 ∷
    3932 ∷ 3148 ∷ 4297 ∷ 3459 ∷ 3899 ∷ 3458 ∷
    2881 ∷ 2835 ∷ 2940 ∷ 2897 ∷ 2950 ∷ 3082 ∷ []) ∷
    -- Export 4, PJM
    (3189 ∷ 4893 ∷ 5703 ∷ 3556 ∷ 4000 ∷ 3367 ∷
    3798 ∷ 3503 ∷ 5235 ∷ 3916 ∷ 3840 ∷ 3499 ∷
    3022 ∷ 3129 ∷ 3472 ∷ 3287 ∷ 3166 ∷ 3132 ∷ []) ∷
    -- Export 5, NE CSC
    (4129 ∷ 8857 ∷ 10980 ∷ 5997 ∷ 6279 ∷ 4373 ∷
    5494 ∷ 4939 ∷ 7288 ∷ 6595 ∷ 6143 ∷ 4760 ∷
    3513 ∷ 4064 ∷ 5337 ∷ 4745 ∷ 4363 ∷ 3937 ∷ []) ∷
    -- Export 6, HQ Import
    (5697 ∷ 6971 ∷ 7564 ∷ 6019 ∷ 4876 ∷ 3860 ∷
    5331 ∷ 3609 ∷ 5802 ∷ 4919 ∷ 4785 ∷ 4319 ∷
    3820 ∷ 3531 ∷ 3914 ∷ 3809 ∷ 3740 ∷ 3768 ∷ []) ∷
    -- Export 7, HQ Cedars
    (4560 ∷ 5529 ∷ 6234 ∷ 4715 ∷ 5139 ∷ 3826 ∷
    5024 ∷ 3558 ∷ 5470 ∷ 4714 ∷ 4544 ∷ 4264 ∷
    3373 ∷ 3227 ∷ 3719 ∷ 3410 ∷ 3539 ∷ 3522 ∷ []) ∷
    -- Export 8, NE 1385
    (4380 ∷ 6877 ∷ 9750 ∷ 5267 ∷ 5206 ∷ 4454 ∷
    5346 ∷ 4884 ∷ 7507 ∷ 6864 ∷ 6650 ∷ 4834 ∷
    3625 ∷ 4142 ∷ 5309 ∷ 4710 ∷ 4368 ∷ 3893 ∷ []) ∷
    -- Export 9, PJM Neptune
    (3911 ∷ 8187 ∷ 10708 ∷ 5424 ∷ 5664 ∷ 4215 ∷
    5237 ∷ 4765 ∷ 7088 ∷ 6474 ∷ 5793 ∷ 4647 ∷
    3540 ∷ 3958 ∷ 5241 ∷ 4695 ∷ 4306 ∷ 3892 ∷ []) ∷
    -- Export 10, PJM VFT
    (4736 ∷ 4817 ∷ 5614 ∷ 4293 ∷ 4686 ∷ 3953 ∷
    5232 ∷ 5384 ∷ 6430 ∷ 5084 ∷ 4604 ∷ 4134 ∷
    4106 ∷ 4935 ∷ 5140 ∷ 4204 ∷ 4146 ∷ 3699 ∷ []) ∷
    []

-- 01, the chart: "import (virtual supply) or export (virtual load) table"
unfoldable pub table_of : Table → List (List ℕ)
table_of Import = import_table
table_of Export = export_table

-- 01, the chart: the differential of a bus, 1 to 10, and a group, 1 to 18
unfoldable pub differential_of : Table → ℕ → ℕ → ℕ
differential_of table bus group = get_or (get_or (table_of table) (bus - 1) []) (group - 1) 0

abbrev pub joined : List (List ℕ) → List ℕ
joined [] = []
joined (row ∷ rows) = row ++ joined rows

-- 01, the chart: "The 360 published differentials, in cents", import table first
unfoldable pub published : List ℕ
published = joined import_table ++ joined export_table

-- where a table begins in them
abbrev pub start_of : Table → ℕ
start_of Import = 0
start_of Export = 180
