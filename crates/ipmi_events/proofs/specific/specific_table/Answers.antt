use Rattle.std.proofs.Common.{◌-◌, ◌∙◌, ap, arith, drop}
use Rattle.ipmi_events.specs.Specific.{specific_tables}
use Rattle.ipmi_events.specs.Table.{table_from_one}
use Rattle.ipmi_events.proofs.TableLemmas.{table_dropped, table_taken}
use Rattle.ipmi_events.proofs.specific.specific_table.Goals as goal

pub returns-then-sensor_type-lt16 : goal.returns-then-sensor_type-lt16
returns-then-sensor_type-lt16 c =
    c.table_from_one.ensures
    ∙ ap (λ tables. table_from_one tables c.args.sensor_type) c.tables_from_01.ensures
    ∙ table_taken 15 c.args.sensor_type specific_tables (omega arith)

pub returns-then-sensor_type-lt32 : goal.returns-then-sensor_type-lt32
returns-then-sensor_type-lt32 c =
    c.table_from_one-then-sensor_type-lt32.ensures
    ∙ ap (λ tables. table_from_one tables (c.args.sensor_type - 15)) c.tables_from_10.ensures
    ∙ table_taken 16 (c.args.sensor_type - 15) (drop 15 specific_tables) (omega arith)
    ∙ table_dropped 15 c.args.sensor_type specific_tables (omega arith)

pub returns-else-sensor_type-lt32 : goal.returns-else-sensor_type-lt32
returns-else-sensor_type-lt32 c =
    c.table_from_one-else-sensor_type-lt32.ensures
    ∙ ap (λ tables. table_from_one tables (c.args.sensor_type - 31)) c.tables_from_20.ensures
    ∙ table_dropped 31 c.args.sensor_type specific_tables (omega arith)
