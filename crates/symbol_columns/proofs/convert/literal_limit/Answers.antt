use Rattle.symbol_columns.proofs.convert.literal_limit.Goals as goal

pub returns : goal.returns
returns c =
    λ p i. record { bits = c.literal_behind.ensures p i; line = c.args.v.line; opener = c.args.v.opener }
