use Rattle.mail_base.proofs.config.Config.new.Goals as goal

pub returns : goal.returns
returns c =
    let macros = c.in_ok-first_macros.ensures in
    let classes = c.in_ok-first_classes.ensures in
    let groups = c.in_ok-first_groups.ensures in
    let maps = c.in_ok-first_maps.ensures in
    let options = c.in_ok-new.ensures in
    λ i. record {
      macros = macros i;
      classes = classes i;
      book = c.new-2.ensures i;
      mailers = c.new-3.ensures i;
      groups = groups i;
      maps = maps i;
      precedences = c.new-4.ensures i;
      headers = c.new-5.ensures i;
      options = options i;
      warnings = c.new-6.ensures i;
    }
